-- Offsets in the input, and faults that get a position.
-- A promise rests on this.
use Rattle.std.specs.Prelude.{◌≡◌, ℕ, List, ◌++◌, length}
use Rattle.std.specs.Str.{encode_utf8_all}
use Rattle.json5_grammar.specs.declared.position.Position.{Position}
use Rattle.json5_grammar.specs.Faults.Positions.{position_after}
use Rattle.json5_types.specs.declared.error.Error.{Error}
use Rattle.json5_types.specs.Errors.{kind_of, error_position, or_position}

-- so many bytes come before this rest of the input
abbrev pub CountsTo : List ℕ → ℕ → List ℕ → Type 0
CountsTo input start q = (before : List ℕ) × (input ≡ before ++ q) × (start ≡ length (encode_utf8_all before))

-- the input begins with these characters, and the offset counts their bytes
pub record StartsAfter (input : List ℕ) (offset : ℕ) (before : List ℕ) : Type 0 where
  pub rest : List ℕ
  pub split : input ≡ before ++ rest
  pub counted : offset ≡ length (encode_utf8_all before)

-- the same fault, which gets a position if it had none: the one after input for which IsBefore holds
pub record PositionedAt (IsBefore : List ℕ → Type 0) (own e : Error) : Type 0 where
  pub kind : kind_of e ≡ kind_of own
  pub there : Position
  pub place : error_position e ≡ or_position (error_position own) there
  pub is_there : (before : List ℕ) → IsBefore before → there ≡ position_after before
