-- Bytes that are a text, or aren't.
-- A promise rests on this.
use Rattle.std.specs.Prelude.{◌≡◌, ◌⊎◌, ℕ, List, Some, Result, Ok, Err, IsUtf8, take, codes}
use Rattle.std.specs.Borrow.{Bor}
use Rattle.std.specs.Str.{chars, IsValidUpTo}
use Rattle.json5_grammar.specs.Faults.Positions.{position_after}
use Rattle.json5_types.specs.declared.error.Error.{Error}
use Rattle.json5_types.specs.Errors.{custom, SaysAt, LacksMemory}

-- this custom fault after the longest front of the bytes that is UTF-8
pub record IsNotUtf8 (bytes : List ℕ) (e : Error) : Type 0 where
  pub count : ℕ
  pub valid : IsValidUpTo bytes count
  pub says : SaysAt (custom (codes "not UTF-8")) (Some (position_after (chars (take count bytes)))) e

-- such a fault, unless there is no memory for it
abbrev pub RefusesBytes : List ℕ → Error → Type 0
RefusesBytes bytes e = IsNotUtf8 bytes e ⊎ LacksMemory e

-- the text is these bytes, if they are one
abbrev pub ReadsText : List ℕ → Result (Bor (List ℕ)) Error → Type 0
ReadsText bytes (Ok text) = (text.now ≡ bytes) × IsUtf8 bytes
ReadsText bytes (Err e) = (IsUtf8 bytes → ⊥) × RefusesBytes bytes e
