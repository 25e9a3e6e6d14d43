-- What contracts see of a scanner: the whole input and its unread part, each as the list of its characters.
-- A promise rests on this.
use Rattle.std.specs.Prelude.{◌≡◌, ◌-◌, ℕ, List, ◌++◌, length, Option, Some, None}
use Rattle.std.specs.Str.{chars, encode_utf8_all}
use Rattle.json5_grammar.specs.declared.error_code.ErrorCode.{ErrorCode}
use Rattle.json5_grammar.specs.declared.error_code.ErrorCode.TheVariants as codes
use Rattle.json5_grammar.specs.Faults.Positions.{position_after}
use Rattle.json5_grammar.specs.declared.position.Position.{Position}
use Rattle.json5_types.specs.declared.error.Error.{Error}
use Rattle.json5_types.specs.Errors.{code, custom, kind_of, error_position}

pub record Cursor : Type 0 where
  pub input : List ℕ
  pub unread : List ℕ

-- the text whose characters are those of the input
abbrev pub IsInput : List ℕ → List ℕ → Type 0
IsInput input text = chars text ≡ input

-- the count of bytes before what is unread
abbrev pub offset_of : Cursor → ℕ
offset_of s = length (encode_utf8_all s.input) - length (encode_utf8_all s.unread)

-- the fault says this code, or, without a code, has a custom message
abbrev pub Says : Option ErrorCode → Error → Type 0
Says (Some c) e = kind_of e ≡ code c
Says None e = (text : List ℕ) × (kind_of e ≡ custom text)

-- the fault has no position, or the one after what is read and p
abbrev pub IsPositioned : Cursor → Option (List ℕ) → Error → Type 0
IsPositioned s None e = error_position e ≡ None
IsPositioned s (Some p) e = (before : List ℕ) → s.input ≡ before ++ s.unread → error_position e ≡ Some (position_after (before ++ p))

abbrev pub IsOutOfMemory : Error → Type 0
IsOutOfMemory e = kind_of e ≡ code codes.OutOfMemory

-- the token in front is refused with a fault that the relation gives it
pub record Refused (IsFault : List ℕ → Option ErrorCode → Option (List ℕ) → Type 0) (s : Cursor) (e : Error) : Type 0 where
  pub reason : Option ErrorCode
  pub place : Option (List ℕ)
  pub fault : IsFault s.unread reason place
  pub says : Says reason e
  pub placed : IsPositioned s place e

-- what was taken was in front, and the rest is left
pub record Took (old : Cursor) (taken : List ℕ) (new : Cursor) : Type 0 where
  pub split : old.unread ≡ taken ++ new.unread
  pub same : new.input ≡ old.input

-- ---- positions in the input by their offsets in bytes

-- a character begins at the offset, or the input ends there
abbrev pub IsOffset : List ℕ → ℕ → Type 0
IsOffset input offset = (before rest : List ℕ) × (input ≡ before ++ rest) × (offset ≡ length (encode_utf8_all before))

-- the position at the offset
abbrev pub IsPositionOf : List ℕ → ℕ → Position → Type 0
IsPositionOf input offset position = (before rest : List ℕ) → input ≡ before ++ rest → offset ≡ length (encode_utf8_all before) → position ≡ position_after before

-- the position at the offset, or that of the input's end if no character begins there
pub record Locates (input : List ℕ) (offset : ℕ) (position : Position) : Type 0 where
  pub inside : IsPositionOf input offset position
  pub past : (IsOffset input offset → ⊥) → position ≡ position_after input
