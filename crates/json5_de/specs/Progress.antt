-- Where an access is in its array or object, and how a call of it refuses or ends it.
-- A promise rests on this.
use Rattle.std.specs.Prelude.{◌≡◌, ℕ, true, false, Option, None, Some, Result}
use Rattle.std.specs.Borrow.{GName, MutBor}
use Rattle.json5_types.specs.declared.error.Error.{Error}
use Rattle.json5_read.specs.Offsets.{PositionedAt, StartsAfter}
use Rattle.json5_read.specs.declared.brackets.BracketPair.{BracketPair}
use Rattle.json5_de.specs.State.{State}
use Rattle.json5_de.specs.Arrays.{AccessState}
use Rattle.json5_de.specs.Enums.{ClosesContent, ClosesLast}
use Rattle.json5_de.specs.Objects.{MapAccessState}
use Rattle.json5_de.specs.Stages.{is_comma_due, is_pending}
use Rattle.json5_de.specs.declared.stage.AccessStage.TheVariants as stage
use Rattle.json5_de.specs.declared.stage.Progress.{Progress}

-- nothing was read after the opening bracket, before which so many bytes are
abbrev pub begun : ℕ → Option ℕ → Progress
begun start brace = record { start = start; stage = stage.Empty; failed = false; brace = brace }

-- what contracts see of an access that holds this reader
abbrev pub array_at : State → Progress → AccessState
array_at reader p = record { reader = record reader { failed = p.failed }; start = p.start; comma_due = is_comma_due p.stage }

abbrev pub object_at : State → Progress → MapAccessState
object_at reader p = record { at = array_at reader p; pending = is_pending p.stage }

-- the reference that an access holds, and the count of bytes before the brace that its end closes too
abbrev pub holding : MutBor State → Progress → GName × Option ℕ
holding de p = (de.ghost_name, p.brace)

-- it holds this reader, and blocks it; if `brace` is Some, its end closes that brace too
pub record HoldsReader (reader : MutBor State) (brace : Option ℕ) (de : MutBor State) (p : Progress) : Type 0 where
  pub same_reference : de.ghost_name ≡ reader.ghost_name
  pub blocks : de.now.failed ≡ true
  pub closes : p.brace ≡ brace

-- after a refusal the reader is blocked again, and the refusal is remembered; its fault gets the bracket's position if it had none
pub record RefusesAccess (old : State) (p : Progress) (own : Error) (new : State) (q : Progress) (result : Error) : Type 0 where
  pub reader : new ≡ record old { failed = true }
  pub remembers : q ≡ record p { failed = true }
  pub placed : PositionedAt (StartsAfter old.input p.start) own result

-- the end takes the closing bracket and, in a variant's content, the variant's brace
pub record EndsAccess (b : BracketPair) (p : Progress) (old new : State) (result : Result (Unit {0}) Error) : Type 0 where
  pub alone : p.brace ≡ None → ClosesLast b (is_comma_due p.stage) (record old { failed = p.failed }) new result
  pub in_variant : (start : ℕ) → p.brace ≡ Some start → ClosesContent b (is_comma_due p.stage) start (record old { failed = p.failed }) new result
