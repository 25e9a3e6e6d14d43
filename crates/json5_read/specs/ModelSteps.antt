-- A step over the input does what reading on lists does.
-- A promise rests on this.
use Rattle.std.specs.Prelude.{◌≡◌, ◌≢◌, ◌⊎◌, ℕ, List, [], ◌∷◌, ◌++◌, Option, Some, None, Result, Ok, Err, IfOk, IfErr, OnErr}
use Rattle.json5_grammar.specs.declared.error_code.ErrorCode.{ErrorCode}
use Rattle.json5_grammar.specs.declared.error_code.ErrorCode.TheVariants as codes
use Rattle.json5_grammar.specs.Faults.Positions.{position_after}
use Rattle.json5_grammar.specs.Model.Reading.{Read, Place, here, inner, got, bad}
use Rattle.json5_grammar.specs.Model.ReadSteps.{forget}
use Rattle.json5_grammar.specs.Model.ReadValues.{read}
use Rattle.json5_types.specs.declared.error.Error.{Error}
use Rattle.json5_tokens.specs.Cursor.{Cursor, Took, Says, Refused, IsOutOfMemory}
use Rattle.json5_types.specs.Errors.{LacksMemory, code, kind_of, error_position}

-- the unread part is the end of the input
pub record IsInside (s : Cursor) : Type 0 where
  pub before : List ℕ
  pub inside : s.input ≡ before ++ s.unread

abbrev pub SameText : Cursor → Cursor → Type 0
SameText old new = new.input ≡ old.input

-- the fault isn't that of a reader that had failed
abbrev pub IsUnprompted : Error → Type 0
IsUnprompted e = kind_of e ≢ code codes.Failed

-- the fault's position is where this rest of the input begins, or it has none
abbrev pub HasPositionAt : List ℕ → Place → Error → Type 0
HasPositionAt input (here q) e = (before : List ℕ) × (input ≡ before ++ q) × (error_position e ≡ Some (position_after before))
HasPositionAt input inner e = error_position e ≡ None

-- reading gives this fault, or memory ran out for its message
pub record RefusesRead {A : Type 0} (input : List ℕ) (reading : Read A) (e : Error) : Type 0 where
  pub reason : Option ErrorCode
  pub place : Place
  pub is_bad : reading ≡ bad reason place
  pub says : IsOutOfMemory e ⊎ (Says reason e × HasPositionAt input place e)
  pub unprompted : IsUnprompted e

-- what reading gives was taken
pub record Gave {A : Type 0} (reading : Read A) (a : A) (old new : Cursor) : Type 0 where
  pub reads : reading ≡ got a new.unread
  pub taken : List ℕ
  pub took : Took old taken new

-- a step does what reading on lists does
pub record Steps {A : Type 0} (reading : Read A) (old new : Cursor) (result : Result A Error) : Type 0 where
  pub given : IfOk result (λ a. Gave reading a old new)
  pub refused : IfErr result (RefusesRead old.input reading)
  pub same_text : OnErr result (SameText old new)

-- what a call answers that leaves the error of a refusal
abbrev pub answered : {A : Type 0} → Option A → Error → Result A Error
answered (Some a) e = Ok a
answered None e = Err e

-- what the value in front is read as, its tree forgotten; at most `room` brackets may be open at once in it
abbrev pub value_at : ℕ → Cursor → Read (Unit {0})
value_at room s = forget (read room s.unread)

-- what is next isn't expected
pub data Unexpected (ends differs : ErrorCode) : List ℕ → Option ErrorCode → Option (List ℕ) → Type 0 where
  at_end : Unexpected ends differs [] (Some ends) None
  at_char : (c : ℕ) (r : List ℕ) → Unexpected ends differs (c ∷ r) (Some differs) (Some [])

-- the token in front is refused with one of its faults, or memory ran out
abbrev pub RefusesToken : (List ℕ → Option ErrorCode → Option (List ℕ) → Type 0) → Cursor → Error → Type 0
RefusesToken IsFault old e = LacksMemory e ⊎ Refused IsFault old e
