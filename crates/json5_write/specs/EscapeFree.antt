-- Characters that are written as they are between any quotes, and are no quotes themselves. Private clauses and proofs alone cite it.
-- A promise rests on this.
use Rattle.std.specs.Prelude.{ℕ, Bool, List, not, ◌&&◌, ◌||◌, ◌==◌}
use Rattle.std.specs.Str.{IsUtf8}
use Rattle.json5_tokens.specs.Scan.{SkipsAll}
use Rattle.json5_tokens.specs.ByteRuns.{is_line_part}

-- a byte at which a run of them ends
abbrev pub ends_escape_free : ℕ → Bool
ends_escape_free x = (x == 10) || ((x == 13) || ((x == 226) || ((x == 34) || ((x == 39) || (x == 92)))))

abbrev pub is_escape_free_byte : ℕ → Bool
is_escape_free_byte x = not (ends_escape_free x)

-- neither a quote nor a backslash
abbrev pub is_unmarked : ℕ → Bool
is_unmarked c = not (c == 34) && (not (c == 39) && not (c == 92))

-- a character of which is_escape_free_byte holds of each byte
abbrev pub is_escape_free : ℕ → Bool
is_escape_free c = is_line_part c && is_unmarked c

-- all of them in front are passed over
pub record SkipsEscapeFree (whole rest : List ℕ) : Type 0 where
  pub skips : SkipsAll is_escape_free whole rest
  pub utf8 : IsUtf8 rest
