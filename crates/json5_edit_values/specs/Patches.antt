-- What the operations of a JSON Patch (RFC 6902) make of a tree.
-- A promise rests on this.
use denote.Ref.{Bor}
use Rattle.std.specs.declared.alloc.Global.{Global}
use Rattle.std.specs.Prelude.{⊤, ◌≡◌, ◌⊎◌, ◌&&◌, ℕ, zero, suc, Bool, true, false, nat_eq, List, [], ◌∷◌, ◌++◌, MatchResult, Result, String, string_bytes}
use Rattle.std.specs.Cmp.Lexicographic.{pointwise}
use Rattle.std.specs.Str.{chars}
use lib.Chars.{codes}
use Rattle.json5_grammar.specs.Language.Documents.{Doc, max_depth}
use Rattle.json5_grammar.specs.Language.Trees.{Tree}
use Rattle.json5_types.specs.declared.value.Value.{Value}
use Rattle.json5_types.specs.ValueMeanings.{value_of}
use Rattle.json5_numbers.specs.Sameness.{same_datum}
use Rattle.json5_read.specs.TreeMeanings.{datum_of}
use Rattle.json5_read.specs.declared.brackets.BracketKind.TheVariants as kind
use Rattle.json5_write.specs.EscapeFreeMarks.{unmarked}
use Rattle.json5_write.specs.ValueTrees.{value_tree}
use Rattle.json5_edit.specs.Changes.{ChangesBy}
use Rattle.json5_edit.specs.Comparing.{IsWithout, IsWithLast, IsWithAt}
use Rattle.json5_edit.specs.Refusals.{HasKey, RefusesPath}
use Rattle.json5_edit.specs.declared.paths.Step.{Step}
use Rattle.json5_edit.specs.declared.paths.Step.TheVariants as step
use Rattle.json5_edit_values.specs.Locations.{AreSteps, Becomes, ChangesAt, HasAt}
use Rattle.json5_edit_values.specs.declared.patch.faults.PatchError.{PatchError}
use Rattle.json5_edit_values.specs.declared.patch.faults.Trouble.{Trouble}
use Rattle.json5_edit_values.specs.declared.patch.faults.Trouble.TheVariants as trouble
use Rattle.json5_edit_values.specs.declared.patch.operations.Operation.{Operation}
use Rattle.json5_edit_values.specs.declared.patch.operations.Operation.TheVariants as operation

-- the tree has this value
abbrev pub IsOf : Value → Tree → Type 0
IsOf value v = unmarked v ≡ value_tree value

-- the object new is the old one with one member more, whose key none had
abbrev pub Joins : (key : List ℕ) → Tree → Tree → Tree → Type 0
Joins key v old new = (HasKey key old → ⊥) × IsWithLast kind.Object key v old new

-- ---- add

-- v is put where the steps lead: a member that is there gets it, an element comes before the one with the index or to the
-- end, and `-` is the end
pub data Adds (v t u : Tree) : List Step → Type 0 where
  as_whole : ChangesAt (Becomes v) [] t u → Adds v t u []
  to_member : (outer : List Step) (k : Bor (List ℕ)) → ChangesAt (Becomes v) (outer ++ (step.Key k ∷ [])) t u → Adds v t u (outer ++ (step.Key k ∷ []))
  as_member : (outer : List Step) (k : Bor (List ℕ)) → ChangesAt (Joins k.now v) outer t u → Adds v t u (outer ++ (step.Key k ∷ []))
  as_element : (outer : List Step) (i : ℕ) → ChangesAt (IsWithAt i v) outer t u → Adds v t u (outer ++ (step.Index i ∷ []))
  as_last : (outer : List Step) (k : Bor (List ℕ)) → k.now ≡ codes "-" → ChangesAt (IsWithLast kind.Array [] v) outer t u → Adds v t u (outer ++ (step.Key k ∷ []))

abbrev pub AddsTo : List (String Global) → Tree → Tree → Tree → Type 0
AddsTo tokens v t u = (steps : List Step) × AreSteps tokens steps × Adds v t u steps

-- ---- the others

abbrev pub RemovesFrom : List (String Global) → Tree → Tree → Type 0
RemovesFrom tokens t u = (outer : List Step) × (s : Step) × AreSteps tokens (outer ++ (s ∷ [])) × ChangesAt (IsWithout s) outer t u

abbrev pub ReplacesAt : List (String Global) → Tree → Tree → Tree → Type 0
ReplacesAt tokens v t u = (steps : List Step) × AreSteps tokens steps × ChangesAt (Becomes v) steps t u

abbrev pub IsAt : List (String Global) → Tree → Tree → Type 0
IsAt tokens t v = (steps : List Step) × AreSteps tokens steps × HasAt steps t v

-- the location is within another one
abbrev pub is_within : (outer inner : List (String Global)) → Bool
is_within [] [] = false
is_within [] (w ∷ ws) = true
is_within (v ∷ vs) [] = false
is_within (v ∷ vs) (w ∷ ws) = pointwise nat_eq (string_bytes v) (string_bytes w) && is_within vs ws

-- taken out at one location and added at another
abbrev pub TakesTo : (from path : List (String Global)) → Tree → Tree → Type 0
TakesTo from path t u = (v : Tree) × (between : Tree) × IsAt from t v × RemovesFrom from t between × AddsTo path v between u

abbrev pub Moves : (from path : List (String Global)) → Tree → Tree → Type 0
Moves from path t u = (is_within from path ≡ false) × TakesTo from path t u

abbrev pub Copies : (from path : List (String Global)) → Tree → Tree → Type 0
Copies from path t u = (v : Tree) × IsAt from t v × AddsTo path v t u

-- what is at the location is equal to the value, or isn't: numbers by their size, and members in any order (section 4.6)
abbrev pub Compares : Bool → List (String Global) → Value → Tree → Type 0
Compares equal tokens value t = (v : Tree) × IsAt tokens t v × (same_datum (datum_of v) (value_of value) ≡ equal)

abbrev pub Tests : List (String Global) → Value → Tree → Tree → Type 0
Tests tokens value t u = Compares true tokens value t × (u ≡ t)

-- ---- a patch

abbrev pub Performs : Operation → Tree → Tree → Type 0
Performs (operation.Add p value) t u = (v : Tree) × IsOf value v × AddsTo p.tokens.items v t u
Performs (operation.Remove p) t u = RemovesFrom p.tokens.items t u
Performs (operation.Replace p value) t u = (v : Tree) × IsOf value v × ReplacesAt p.tokens.items v t u
Performs (operation.Move from p) t u = Moves from.tokens.items p.tokens.items t u
Performs (operation.Copy from p) t u = Copies from.tokens.items p.tokens.items t u
Performs (operation.Test p value) t u = Tests p.tokens.items value t u

-- one after the other
abbrev pub Patches : List Operation → Tree → Tree → Type 0
Patches [] t u = u ≡ t
Patches (o ∷ os) t u = (between : Tree) × Performs o t between × Patches os between u

-- ---- why one isn't made

-- what is there isn't equal to the value of a test, or a value would move into itself; why an edit isn't made isn't said
abbrev pub Fails : Trouble → Operation → Tree → Type 0
Fails trouble.Differs (operation.Test p value) t = Compares false p.tokens.items value t
Fails trouble.Differs o t = ⊥
Fails trouble.IntoItself (operation.Move from p) t = is_within from.tokens.items p.tokens.items ≡ true
Fails trouble.IntoItself o t = ⊥
Fails (trouble.Edit e) o t = ⊤

-- the operations in front of that with this index could be made, and then it couldn't
abbrev pub FailsAt : ℕ → List Operation → Trouble → Tree → Type 0
FailsAt n [] cause t = ⊥
FailsAt zero (o ∷ os) cause t = Fails cause o t
FailsAt (suc n) (o ∷ os) cause t = (between : Tree) × Performs o t between × FailsAt n os cause between

-- the text is no document, or memory ran out
abbrev pub IsUnread : List ℕ → Trouble → Type 0
IsUnread text (trouble.Edit e) = RefusesPath text [] e
IsUnread text cause = ⊥

abbrev pub RefusesPatch : List Operation → List ℕ → PatchError → Type 0
RefusesPatch ops text e = IsUnread text e.trouble ⊎ ((t : Tree) × Doc max_depth (chars text) t × FailsAt e.operation ops e.trouble t)

abbrev pub MakesPatch : List Operation → List ℕ → Result (String Global) PatchError → Type 0
MakesPatch ops text result = MatchResult result (λ made. ChangesBy (Patches ops) text (string_bytes made)) (RefusesPatch ops text)

-- ---- private clauses alone cite these

abbrev pub FailsIn : Operation → List ℕ → Trouble → Type 0
FailsIn o text cause = (t : Tree) → Doc max_depth (chars text) t → Fails cause o t

abbrev pub ComparesIn : Bool → List (String Global) → Value → List ℕ → Type 0
ComparesIn equal tokens value text = (t : Tree) × Doc max_depth (chars text) t × Compares equal tokens value t

abbrev pub RefusesTest : List (String Global) → Value → List ℕ → Trouble → Type 0
RefusesTest tokens value text trouble.Differs = ComparesIn false tokens value text
RefusesTest tokens value text trouble.IntoItself = ⊥
RefusesTest tokens value text (trouble.Edit e) = ⊤

abbrev pub RefusesMove : (from path : List (String Global)) → Trouble → Type 0
RefusesMove from path trouble.Differs = ⊥
RefusesMove from path trouble.IntoItself = is_within from path ≡ true
RefusesMove from path (trouble.Edit e) = ⊤
