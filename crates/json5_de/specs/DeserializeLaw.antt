-- The law of a type that is read.
-- A promise rests on this.
use Rattle.std.specs.Prelude.{◌≡◌, ℕ, ◌+◌, ◌≤◌, Bool, false, true, List, Option, Some, None, Result, Ok, Err, IsOk, IfOk, IfErr, IsErrAnd}
use Rattle.json5_grammar.specs.declared.error_code.ErrorCode.TheVariants as codes
use Rattle.json5_grammar.specs.Language.Trees.{Tree, depth}
use Rattle.json5_grammar.specs.Language.Values.{Reads}
use Rattle.json5_grammar.specs.Language.Documents.{max_depth}
use Rattle.json5_types.specs.declared.error.Error.{Error}
use Rattle.json5_tokens.specs.Cursor.{IsOutOfMemory}
use Rattle.json5_de.specs.State.{State, OnlyRead, SameText, FailsIfErr}
use Rattle.json5_de.specs.Faults.{IsPositionless}
pub use Rattle.json5_read.specs.ModelSteps.{IsUnprompted}

-- one value of the tree t was read, blanks before it included, and nothing else happened
pub record TookValue (old : State) (t : Tree) (new : State) : Type 0 where
  pub live : old.failed ≡ false
  pub reads : Reads old.unread t new.unread
  pub shallow : old.level + depth t ≤ max_depth
  pub rest : OnlyRead old new

-- a tree was read, and v is what it converts to
abbrev pub Gives : {V C : Type 0} → (V → C) → (Tree → Option C) → State → State → V → Type 0
Gives content convert old new v = (t : Tree) × TookValue old t new × (convert t ≡ Some (content v))

abbrev pub IsOkOrMemory : {V : Type 0} → Result V Error → Type 0
IsOkOrMemory (Ok v) = Unit {0}
IsOkOrMemory (Err e) = IsOutOfMemory e

-- if a tree that converts can be read, this refusal says that memory ran out
pub record OnlyForMemory {C : Type 0} (convert : Tree → Option C) (old : State) (e : Error) : Type 0 where
  pub memory : (t : Tree) (r : List ℕ) (c : C) → old.failed ≡ false → Reads old.unread t r → old.level + depth t ≤ max_depth → convert t ≡ Some c → IsOutOfMemory e

-- what can be read is read, unless memory runs out
abbrev pub Completes : {V C : Type 0} → (Tree → Option C) → State → Result V Error → Type 0
Completes convert old result = IfErr result (OnlyForMemory convert old)

-- a tree that is allocation-free and can be read is read without taking memory
abbrev pub CompletesFree : {V C : Type 0} → (Tree → Bool) → (Tree → Option C) → State → Result V Error → Type 0
CompletesFree {C = C} allocation_free convert old result =
    (t : Tree) (r : List ℕ) (c : C) → old.failed ≡ false → Reads old.unread t r → old.level + depth t ≤ max_depth → convert t ≡ Some c → allocation_free t ≡ true → IsOk result

-- a reader that has failed returns `Failed` without a position
abbrev pub AnswersFailed : {V : Type 0} → State → Result V Error → Type 0
AnswersFailed old result = old.failed ≡ true → IsErrAnd result (IsPositionless codes.Failed)

-- and stays as it is
abbrev pub StaysFailed : {V : Type 0} → State → State → Result V Error → Type 0
StaysFailed old new result = old.failed ≡ true → IsErrAnd result (IsPositionless codes.Failed) × (new ≡ old)

-- two values that may be read from one input have the same content, and leave the same
abbrev pub OneAnswer : {V C : Type 0} → (V → C) → (Tree → Option C) → Type 0
OneAnswer {V = V} content convert = (old new last : State) (v w : V) → Gives content convert old new v → Gives content convert old last w → (content v ≡ content w) × (new ≡ last)

-- a reader that hasn't failed doesn't say that it has
abbrev pub Unprompted : {V : Type 0} → State → Result V Error → Type 0
Unprompted old result = IfErr result (λ e. old.failed ≡ false → IsUnprompted e)

-- one value is read from the front: the law of a type, and after a refusal the reader has failed for good
pub record ReadsValue {V C : Type 0} (content : V → C) (convert : Tree → Option C) (allocation_free : Tree → Bool) (refuses : State → Error → State → Type 0) (old new : State) (result : Result V Error) : Type 0 where
  pub sound : IfOk result (λ v. Gives content convert old new v)
  pub complete : Completes convert old result
  pub no_memory : CompletesFree allocation_free convert old result
  pub refused : IfErr result (λ e. refuses old e new)
  pub unprompted : Unprompted old result
  pub same_text : SameText old new
  pub failed : FailsIfErr new result
  pub before : StaysFailed old new result

-- the input stays; a reader that had failed returns `Failed` without a position, and no other does
pub record Steady {V : Type 0} (old new : State) (result : Result V Error) : Type 0 where
  pub same_text : SameText old new
  pub unprompted : Unprompted old result
  pub before : AnswersFailed old result

-- ---- a call that leaves its error elsewhere

-- what the call answers: the value, or the error that it left
abbrev pub answered : {V : Type 0} → Option V → Error → Result V Error
answered (Some v) e = Ok v
answered None e = Err e
