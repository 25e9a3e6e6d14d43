-- A user's own types: a value is read, and then accepted or refused.
-- A promise rests on this.
use Rattle.std.specs.Prelude.{◌≡◌, ◌⊎◌, ℕ, ◌+◌, ◌≤◌, Bool, false, List, [], ◌++◌, Option, Some, None, Result, MatchResult, IfOk, IfErr}
use Rattle.json5_grammar.specs.declared.error_code.ErrorCode.{ErrorCode}
use Rattle.json5_grammar.specs.Language.Trees.{Tree, depth}
use Rattle.json5_grammar.specs.Language.Values.{Val, Reads, Stops}
use Rattle.json5_grammar.specs.Language.Documents.{max_depth}
use Rattle.json5_types.specs.declared.error.Error.{Error}
use Rattle.json5_de.specs.State.{State, SameText}
use Rattle.json5_de.specs.DeserializeLaw.{Gives, OnlyForMemory, CompletesFree, Unprompted}
use Rattle.json5_de.specs.Faults.{RefusedByOrMemory}

-- any tree that can be read converts to this content, if to any
abbrev pub IsContent : {C : Type 0} → (Tree → Option C) → State → C → Type 0
IsContent {C = C} convert old content = (t : Tree) (r : List ℕ) (c : C) → old.failed ≡ false → Reads old.unread t r → old.level + depth t ≤ max_depth → convert t ≡ Some c → content ≡ c

-- if a tree that converts to c is in front, the call returns Ok of a value whose content is c, unless memory runs out
abbrev pub ReadsContent : {V C : Type 0} → (V → C) → (Tree → Option C) → State → Result V Error → Type 0
ReadsContent content convert old result = MatchResult result (λ v. IsContent convert old (content v)) (OnlyForMemory convert old)

-- one value is read from the front: the law of a type, and which content is returned
pub record ReadsExactly {V C : Type 0} (content : V → C) (convert : Tree → Option C) (allocation_free : Tree → Bool) (refuses : State → Error → State → Type 0) (old new : State) (result : Result V Error) : Type 0 where
  pub sound : IfOk result (λ v. Gives content convert old new v)
  pub complete : ReadsContent content convert old result
  pub no_memory : CompletesFree allocation_free convert old result
  pub refused : IfErr result (λ e. refuses old e new)
  pub unprompted : Unprompted old result
  pub same_text : SameText old new

-- what is made of what there is
abbrev pub if_more : {A B : Type 0} → (A → Option B) → Option A → Option B
if_more g None = None
if_more g (Some a) = g a

-- a tree that converts, to what is accepted of it
abbrev pub refined : {A B : Type 0} → (Tree → Option A) → (A → Option B) → Tree → Option B
refined f g t = if_more g (f t)

-- a value that converts and isn't accepted: a custom message, at the value's first character
pub data NotAccepted {A B : Type 0} (f : Tree → Option A) (g : A → Option B) : List ℕ → Option ErrorCode → Option (List ℕ) → Type 0 where
  not_accepted : {s : List ℕ} {t : Tree} (r : List ℕ) (a : A) → Val s t → Stops s r → f t ≡ Some a → g a ≡ None → NotAccepted f g (s ++ r) None (Some [])

-- refused as the read refuses it, or because what was read isn't accepted
abbrev pub RefusesOwn : {A B : Type 0} → (Tree → Option A) → (A → Option B) → (State → Error → State → Type 0) → State → Error → State → Type 0
RefusesOwn f g refuses old e new = refuses old e new ⊎ RefusedByOrMemory (NotAccepted f g) old e
