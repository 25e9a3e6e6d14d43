-- How a value begins: with the first character of a scalar, or with an opening bracket.
-- A promise rests on this.
use Rattle.std.specs.Prelude.{◌≡◌, ℕ, ◌<◌, false, ◌∷◌, Option, Some, None, Result, IfOk, IfErr, OnErr, ◌==◌, ◌||◌, slice_get}
use Rattle.json5_grammar.specs.Faults.Fronts.{of_array, of_object, opening}
use Rattle.json5_types.specs.declared.error.Error.{Error}
use Rattle.json5_tokens.specs.Cursor.{Cursor}
use Rattle.json5_read.specs.declared.brackets.BracketKind.{BracketKind}
use Rattle.json5_read.specs.declared.brackets.OpenBracket.{OpenBracket}
use Rattle.json5_read.specs.declared.kinds.ValueKind.{ValueKind}
use Rattle.json5_read.specs.declared.kinds.ValueKind.TheVariants as kind
use Rattle.json5_read.specs.Brackets.{bracket_of}
use Rattle.json5_read.specs.Kinds.{kind_at}
use Rattle.json5_read.specs.Offsets.{CountsTo}
use Rattle.json5_read.specs.ModelSteps.{IsInside, SameText, RefusesRead, value_at}

-- the character opens brackets of this kind, or none
abbrev pub OpensKind : ℕ → Option BracketKind → Type 0
OpensKind c (Some k) = c ≡ opening (bracket_of k)
OpensKind c None = ((c == opening of_array) || (c == opening of_object)) ≡ false

-- no value that is a collection begins here with this character
pub record AtScalar (c : ℕ) (s : Cursor) : Type 0 where
  pub ready : IsInside s
  pub first : slice_get s.unread 0 ≡ Some c
  pub other : kind_at c ≡ kind.Other → OpensKind c None

-- one of this kind begins here
pub record AtKind (k : ValueKind) (s : Cursor) : Type 0 where
  pub char : ℕ
  pub ready : IsInside s
  pub first : slice_get s.unread 0 ≡ Some char
  pub is : kind_at char ≡ k

-- an opening bracket was taken
pub record OpenedAt (room : ℕ) (bracket : OpenBracket) (old new : Cursor) : Type 0 where
  pub sign : old.unread ≡ opening (bracket_of bracket.kind) ∷ new.unread
  pub counted : CountsTo old.input bracket.start old.unread
  pub room_left : 0 < room
  pub same_text : SameText old new

-- an opening bracket was taken, or there was no room for it
pub record OpensBracket (room : ℕ) (old new : Cursor) (result : Result OpenBracket Error) : Type 0 where
  pub opened : IfOk result (λ bracket. OpenedAt room bracket old new)
  pub refused : IfErr result (RefusesRead old.input (value_at room old))
  pub same_text : OnErr result (SameText old new)
  pub full : OnErr result (room ≡ 0)
