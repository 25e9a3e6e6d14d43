-- Tokens that are in front of two texts, spelled alike.
-- A promise rests on this.
use denote.Ref.{Bor}
use Rattle.std.specs.Prelude.{◌≡◌, ◌≢◌, ◌≤◌, ◌||◌, ◌==◌, ℕ, Bool, true, List, [], ◌∷◌, ◌++◌, length, Option, IfSome}
use Rattle.std.specs.Str.{chars}
use Rattle.json5_grammar.specs.Language.Characters.{comma_sign, NotBegun, Each}
use Rattle.json5_grammar.specs.Language.Strings.{is_quote}
use Rattle.json5_styles.specs.Json.{is_json_blank}
use Rattle.json5_tokens.specs.Cursor.{Cursor}
use Rattle.json5_tokens.specs.Scan.{StartsWith}
use Rattle.json5_lexemes.specs.Lexemes.{Quoted}
use Rattle.json5_lexemes.specs.Runs.{PassesRun, is_text_byte}
use Rattle.json5_lexemes.specs.SameLexemes.{is_sign, is_word_part}
use Rattle.json5_lexemes.specs.declared.runs.Run.{Run}

-- the rests of both texts, where something was passed
abbrev pub Rests : Type 0
Rests = Option (Bor (List ℕ) × Bor (List ℕ))

-- a bracket, a colon or a comma
abbrev pub is_mark : ℕ → Bool
is_mark c = (c == comma_sign) || is_sign c

-- such a character, or a blank of JSON
abbrev pub ends_words : ℕ → Bool
ends_words c = is_mark c || is_json_blank c

-- blanks of JSON were passed
pub record PassesBlanks (text rest : List ℕ) : Type 0 where
  pub passed : List ℕ
  pub split : chars text ≡ passed ++ chars rest
  pub each : Each is_json_blank passed

-- the same character was passed in both texts
abbrev pub PassesSame : (left right : List ℕ) → Option (ℕ × Bor (List ℕ) × Bor (List ℕ)) → Type 0
PassesSame left right result = IfSome result (λ p. StartsWith left p.0 p.1.now × StartsWith right p.0 p.2.now)

abbrev pub cursor : List ℕ → Cursor
cursor text = record { input = chars text; unread = chars text }

-- characters of the run were passed, the same in both texts
abbrev pub PassesBoth : Run → (left right : List ℕ) → Rests → Type 0
PassesBoth run left right result = IfSome result (λ p. PassesRun run (cursor left) (cursor right) (cursor p.0.now) (cursor p.1.now))

-- c and s are a comma or a token, before r
pub data IsPart (c : ℕ) : (s r : List ℕ) → Type 0 where
  mark : {r : List ℕ} → is_mark c ≡ true → IsPart c [] r
  -- a number, a literal or a name, as long as it can be
  word : {s r : List ℕ} → Each is_word_part (c ∷ s) → NotBegun is_word_part r → IsPart c s r
  string : {s r : List ℕ} → is_quote c ≡ true → Quoted c s → IsPart c s r

-- after c, which was passed, the rest of a comma or a token was passed too, the same in both texts
pub record SharesToken (c : ℕ) (left right after after_right : List ℕ) : Type 0 where
  pub rest : List ℕ
  pub in_left : chars left ≡ rest ++ chars after
  pub in_right : chars right ≡ rest ++ chars after_right
  pub is_left : IsPart c rest (chars after)
  pub is_right : IsPart c rest (chars after_right)

abbrev pub PassesToken : (c : ℕ) (left right : List ℕ) → Rests → Type 0
PassesToken c left right result = IfSome result (λ p. SharesToken c left right p.0.now p.1.now)

-- parts of a name without a quote and a backslash were passed, the same in both texts
pub record SharesName (left right after after_right : List ℕ) : Type 0 where
  pub name : List ℕ
  pub in_left : chars left ≡ name ++ chars after
  pub in_right : chars right ≡ name ++ chars after_right
  pub parts : Each is_word_part name
  pub plain : Each is_text_byte name

abbrev pub PassesName : (left right : List ℕ) → Rests → Type 0
PassesName left right result = IfSome result (λ p. SharesName left right p.0.now p.1.now)

-- ---- private clauses alone cite these

-- part of a word was passed, the same in both texts
pub record InWord (left right after after_right : List ℕ) : Type 0 where
  pub passed : List ℕ
  pub in_left : chars left ≡ passed ++ chars after
  pub in_right : chars right ≡ passed ++ chars after_right
  pub each : Each is_word_part passed

-- a character of a word was passed, the same in both texts
pub record IsNextPart (left right after after_right : List ℕ) : Type 0 where
  pub part : ℕ
  pub in_left : chars left ≡ part ∷ chars after
  pub in_right : chars right ≡ part ∷ chars after_right
  pub is_part : is_word_part part ≡ true

abbrev pub PassesPart : (left right : List ℕ) → Rests → Type 0
PassesPart left right result = IfSome result (λ p. IsNextPart left right p.0.now p.1.now)

-- part of a string in the quotes q was passed, the same in both texts
pub record InString (q : ℕ) (left right after after_right : List ℕ) : Type 0 where
  pub passed : List ℕ
  pub in_left : chars left ≡ passed ++ chars after
  pub in_right : chars right ≡ passed ++ chars after_right
  pub quoted : (s : List ℕ) → Quoted q s → Quoted q (passed ++ s)

-- after c, which was passed and ends no string, what belongs to it was passed, the same in both texts
pub record Escapes (c : ℕ) (left right after after_right : List ℕ) : Type 0 where
  pub in_string : (x y : List ℕ) (q : ℕ) → c ≢ q → StartsWith x c left → StartsWith y c right → InString q x y after after_right
  pub shorter : length (chars after) ≤ length (chars left)

abbrev pub PassesEscaped : (c : ℕ) (left right : List ℕ) → Rests → Type 0
PassesEscaped c left right result = IfSome result (λ p. Escapes c left right p.0.now p.1.now)
