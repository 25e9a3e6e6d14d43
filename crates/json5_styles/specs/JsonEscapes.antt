-- How a text is split at a character that is escaped in JSON. Private clauses and proofs alone cite it.
-- A promise rests on this.
use Rattle.std.specs.Prelude.{◌≡◌, ◌<◌, ℕ, List, ◌++◌, Bool, true, false, nat_lt, ◌||◌, ◌==◌, length}
use Rattle.std.specs.Str.{chars, encode_utf8_all, all_scalars, IsUtf8}
use Rattle.json5_grammar.specs.Language.Characters.{space, double_quote, backslash}
use Rattle.json5_tokens.specs.Scan.{SkipsAll}
use Rattle.json5_styles.specs.Json.{is_unescaped}
use Rattle.json5_styles.specs.JsonTexts.{json_escaped, json_escaped_all}

-- a byte at which a run of them ends
abbrev pub ends_unescaped : ℕ → Bool
ends_unescaped x = nat_lt x space || ((x == double_quote) || (x == backslash))

-- the text is raw, an escaped character, and what follows
pub record SplitsAtChar (t raw : List ℕ) (c : ℕ) (after : List ℕ) : Type 0 where
  pub text : json_escaped_all (chars t) ≡ chars raw ++ (json_escaped c ++ json_escaped_all (chars after))
  pub escaped : is_unescaped c ≡ false
  pub shorter : length after < length t
  pub utf8 : IsUtf8 after

-- the characters before rest are written as they are
pub record StandsBefore (t rest : List ℕ) : Type 0 where
  pub before : List ℕ
  pub scalars : all_scalars before ≡ true
  pub bytes : t ≡ encode_utf8_all before ++ rest
  pub same : json_escaped_all before ≡ before
  pub utf8 : IsUtf8 rest

-- the run of t is passed: rest is what follows it
pub record IsPastRun (t rest : List ℕ) : Type 0 where
  pub stands : StandsBefore t rest
  pub run : SkipsAll is_unescaped t rest
