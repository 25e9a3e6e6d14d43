-- Runs in front of two texts, which are the same in both, and blanks and commas in front of one.
-- A promise rests on this.
use Rattle.std.specs.Prelude.{◌≡◌, ◌≤◌, ℕ, Bool, not, nat_lt, ◌||◌, ◌&&◌, ◌==◌, if◌then◌else◌, List, ◌++◌, length, take}
use Rattle.std.specs.Simd.Lanes.{zip2}
use Rattle.json5_grammar.specs.Language.Characters.{Each}
use Rattle.json5_tokens.specs.ByteRuns.{is_in_line, is_line_part, is_no_star}
use Rattle.json5_tokens.specs.Cursor.{Cursor}
use Rattle.json5_lexemes.specs.declared.runs.Run.{Run}
use Rattle.json5_lexemes.specs.declared.runs.Run.TheVariants as runs

-- a byte that surely ends no number, literal or name
abbrev pub is_word_byte : ℕ → Bool
is_word_byte x = not ((((((nat_lt x 40 || nat_lt 122 x) || (x == 44)) || (x == 47)) || (x == 58)) || (x == 91)) || (x == 93))

-- neither a quote nor a backslash
abbrev pub is_text_byte : ℕ → Bool
is_text_byte x = not (x == 34) && (not (x == 39) && not (x == 92))

-- a byte that goes on with the run
abbrev pub is_part : Run → ℕ → Bool
is_part runs.Word = is_word_byte
is_part runs.Text = is_text_byte
is_part runs.Line = is_in_line
is_part runs.Block = is_no_star

-- a character of which each byte does so
abbrev pub is_char : Run → ℕ → Bool
is_char runs.Word = is_word_byte
is_char runs.Text = is_text_byte
is_char runs.Line = is_line_part
is_char runs.Block = is_no_star

-- 0 where the bytes are the same and go on with the run
abbrev pub code : Run → ℕ → ℕ → ℕ
code r a b = if not (a == b) || not (is_part r a) then 1 else 0

abbrev pub codes : Run → List ℕ → List ℕ → List ℕ
codes r = zip2 (code r)

abbrev pub is_zero : ℕ → Bool
is_zero n = n == 0

abbrev pub is_set : ℕ → Bool
is_set n = not (is_zero n)

-- the first n bytes are the same in both texts, and all go on with the run
pub record IsRun (r : Run) (x y : List ℕ) (n : ℕ) : Type 0 where
  pub left : n ≤ length x
  pub right : n ≤ length y
  pub same : take n x ≡ take n y
  pub each : Each (is_part r) (take n x)

-- characters of the run are passed over, the same in both texts
pub record PassesRun (r : Run) (left right after after_right : Cursor) : Type 0 where
  pub passed : List ℕ
  pub each : Each (is_char r) passed
  pub in_left : left.unread ≡ passed ++ after.unread
  pub in_right : right.unread ≡ passed ++ after_right.unread

-- a blank of JSON or a comma
abbrev pub is_common_separator : ℕ → Bool
is_common_separator x = ((((x == 32) || (x == 9)) || (x == 10)) || (x == 13)) || (x == 44)

abbrev pub ends_separators : ℕ → Bool
ends_separators x = not (is_common_separator x)

-- blanks and commas are passed over
pub record PassesSeparators (old new : Cursor) : Type 0 where
  pub passed : List ℕ
  pub each : Each is_common_separator passed
  pub split : old.unread ≡ passed ++ new.unread
