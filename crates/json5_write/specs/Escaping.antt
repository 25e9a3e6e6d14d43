-- How a string is split at a character that is escaped.
-- A promise rests on this.
use Rattle.std.specs.Prelude.{◌≡◌, ◌<◌, ℕ, List, ◌++◌, true, length}
use Rattle.std.specs.Char.{encode_utf8, IsScalar}
use Rattle.std.specs.Str.{chars, encode_utf8_all, all_scalars, IsUtf8}
use Rattle.json5_grammar.specs.Written.Quoting.{escaped_all}

-- the bytes begin with the character c, and rest follows it
pub record StartsWithScalar (t : List ℕ) (c : ℕ) (rest : List ℕ) : Type 0 where
  pub bytes : t ≡ encode_utf8 c ++ rest
  pub scalar : IsScalar c
  pub utf8 : IsUtf8 rest

-- each character is written as it is
abbrev pub NeedsNoEscape : ℕ → List ℕ → Type 0
NeedsNoEscape q t = escaped_all q (chars t) ≡ chars t

-- the escaped string is raw, an escape, and what follows, escaped
pub record SplitsAtEscape (q : ℕ) (t raw escape after : List ℕ) : Type 0 where
  pub text : escaped_all q (chars t) ≡ chars raw ++ (chars escape ++ escaped_all q (chars after))
  pub shorter : length after < length t
  pub utf8 : IsUtf8 after

-- the characters before rest are written as they are
pub record WritesAsIs (q : ℕ) (t rest : List ℕ) : Type 0 where
  pub before : List ℕ
  pub scalars : all_scalars before ≡ true
  pub bytes : t ≡ encode_utf8_all before ++ rest
  pub same : escaped_all q before ≡ before
  pub utf8 : IsUtf8 rest
