-- How a whole input is read, and why it is refused.
-- A promise rests on this.
use Rattle.std.specs.Prelude.{◌≡◌, ◌⊎◌, ℕ, ◌≤◌, List, [], Option, Some, Result, MatchResult, IfOk, IfErr, OnOk, OnErr, IsOk}
use Rattle.json5_grammar.specs.Language.Documents.{Doc}
use Rattle.json5_grammar.specs.Language.Trees.{Tree, depth}
use Rattle.json5_grammar.specs.Language.Values.{Reads}
use Rattle.json5_types.specs.declared.error.Error.{Error}
use Rattle.json5_tokens.specs.Cursor.{Refused, IsOutOfMemory}
use Rattle.json5_de.specs.State.{State, GivesUp, at_start}
use Rattle.json5_de.specs.DeserializeLaw.{TookValue, StaysFailed, IsUnprompted}
use Rattle.json5_de.specs.Faults.{RefusedBy, AtEnd, Trailing}
use Rattle.json5_read.specs.EntryFaults.{AfterBlanks}

-- a document within the limit whose tree converts is read as what it converts to, unless memory runs out
abbrev pub ReadsDocument : {V C : Type 0} → (V → C) → (Tree → Option C) → ℕ → List ℕ → Result V Error → Type 0
ReadsDocument {C = C} content convert limit x result = (t : Tree) (c : C) → Doc limit x t → convert t ≡ Some c → MatchResult result (λ v. content v ≡ c) IsOutOfMemory

-- the value is refused, or what follows a value that converts
pub data RefusesReading {C : Type 0} (convert : Tree → Option C) (refuses : State → Error → State → Type 0) (limit : ℕ) (x : List ℕ) (e : Error) : Type 0 where
  in_value : (new : State) → refuses (at_start limit x) e new → RefusesReading convert refuses limit x e
  after_value : (t : Tree) (c : C) (new : State) → TookValue (at_start limit x) t new → convert t ≡ Some c → RefusedBy Trailing new e → RefusesReading convert refuses limit x e

-- if a value within the limit that converts is in front, the fault is that of what follows it, unless memory runs out
abbrev pub BlamesRest : {C : Type 0} → (Tree → Option C) → ℕ → List ℕ → Error → Type 0
BlamesRest {C = C} convert limit x e = (t : Tree) (r : List ℕ) (c : C) → Reads x t r → depth t ≤ limit → convert t ≡ Some c
    → IsOutOfMemory e ⊎ Refused (AfterBlanks Trailing) (record { input = x; unread = r }) e

-- the blanks at the end are taken, and nothing else may be left
pub record ReadsEnd (old new : State) (result : Result (Unit {0}) Error) : Type 0 where
  pub sound : OnOk result (AtEnd old × (new ≡ record old { unread = [] }))
  pub complete : AtEnd old → IsOk result
  pub refused : IfErr result (RefusedBy Trailing old)
  pub failed : OnErr result (GivesUp old new)
  pub before : StaysFailed old new result

-- the whole input is read as one value within the limit
pub record ReadsWholeText {V C : Type 0} (content : V → C) (convert : Tree → Option C) (refuses : State → Error → State → Type 0) (limit : ℕ) (x : List ℕ) (result : Result V Error) : Type 0 where
  pub sound : IfOk result (λ v. (t : Tree) × Doc limit x t × (convert t ≡ Some (content v)))
  pub complete : ReadsDocument content convert limit x result
  pub refused : IfErr result (RefusesReading convert refuses limit x)
  pub unprompted : IfErr result IsUnprompted
