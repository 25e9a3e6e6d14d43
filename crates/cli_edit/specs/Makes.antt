-- What is made of a text.
-- A promise rests on this.
use denote.Ref.{Bor}
use Rattle.std.specs.declared.alloc.Global.{Global}
use Rattle.std.specs.Prelude.{⊤, ◌≡◌, ◌⊎◌, ℕ, Bool, true, false, List, [], ◌∷◌, ◌++◌, Result, Ok, Err, String, string_bytes}
use Rattle.std.specs.Fmt.{decimal}
use Rattle.std.specs.Str.{chars}
use Rattle.json5_grammar.specs.Language.Documents.{Doc, max_depth}
use Rattle.json5_grammar.specs.Language.Trees.{Tree}
use Rattle.json5_read.specs.TreeMeanings.{datum_of}
use Rattle.json5_lexemes.specs.Lexemes.{HaveSameLexemes}
use Rattle.json5_edit.specs.Changes.{ChangesBy, InsertsBefore, IsInserted, IsPushed, IsPutIn, IsRekeyed, IsRemoved, IsRemovedAlone}
use Rattle.json5_edit.specs.Commented.{IsCommented}
use Rattle.json5_edit.specs.Refusals.{EndsInNoKey, RefusesBefore, RefusesInsert, RefusesPath, RefusesPush, RefusesPutIn, RefusesRename, RefusesSet, RefusesSort}
use Rattle.json5_edit.specs.Sets.{IsSet}
use Rattle.json5_edit.specs.Sorted.{IsOrdered}
use Rattle.json5_edit.specs.declared.faults.EditError.{EditError}
use Rattle.json5_edit.specs.declared.faults.EditError.TheVariants as error
use Rattle.json5_edit.specs.declared.paths.Before.{Before}
use Rattle.json5_edit.specs.declared.paths.Step.{Step}
use Rattle.json5_edit.specs.declared.paths.Step.TheVariants as step
use Rattle.json5_edit_style.specs.declared.habits.Names.{Names}
use Rattle.json5_edit_values.specs.Merges.{Merges}
use Rattle.json5_edit_values.specs.Patches.{Copies, Moves, Patches}
use Rattle.json5_edit_values.specs.Puts.{IsPut, IsPutIfAbsent, RefusesPut}
use Rattle.json5_edit_values.specs.declared.patch.operations.Operation.{Operation}
use Rattle.cli_edit.specs.declared.requests.Command.{Command}
use Rattle.cli_edit.specs.declared.requests.Command.TheVariants as work
use Rattle.cli_edit.specs.declared.trouble.TextTrouble.{TextTrouble}
use Rattle.cli_edit.specs.declared.trouble.TextTrouble.TheVariants as trouble
use Rattle.cli_edit.specs.Requests.{PutsValue}
use Rattle.cli_edit.specs.Parts.{IsShownAt, RefusesShowing}

-- with a member of this key more, or with an element more before that with this index
abbrev pub InsertsBy : Step → List ℕ → List Step → List ℕ → List ℕ → Type 0
InsertsBy (step.Key k) text outer value made = IsInserted text outer k.now value made
InsertsBy (step.Index i) text outer value made = IsPutIn text outer i value made

-- the last step says which
abbrev pub Inserts : List ℕ → List Step → List ℕ → List ℕ → Type 0
Inserts text steps value made = (outer : List Step) × (s : Step) × (steps ≡ outer ++ (s ∷ [])) × InsertsBy s text outer value made

abbrev pub RefusesBy : Step → List ℕ → List Step → List ℕ → EditError → Type 0
RefusesBy (step.Key k) text outer value e = RefusesInsert text outer k.now value e
RefusesBy (step.Index i) text outer value e = RefusesPutIn text outer i value e

abbrev pub RefusesInserting : List ℕ → List Step → List ℕ → EditError → Type 0
RefusesInserting text steps value e = ((steps ≡ []) × (e ≡ error.NoKey)) ⊎ ((outer : List Step) × (s : Step) × (steps ≡ outer ++ (s ∷ [])) × RefusesBy s text outer value e)

-- with a member of this key more that comes before another one, or before all
abbrev pub InsertsAhead : Before → List ℕ → List Step → List ℕ → List ℕ → Type 0
InsertsAhead b text steps value made = (outer : List Step) × (k : Bor (List ℕ)) × (steps ≡ outer ++ (step.Key k ∷ [])) × ((first : Names) × InsertsBefore b first text outer k.now value made)

abbrev pub RefusesAhead : Before → List ℕ → List Step → List ℕ → EditError → Type 0
RefusesAhead b text steps value e = (EndsInNoKey steps × (e ≡ error.NoKey)) ⊎ ((outer : List Step) × (k : Bor (List ℕ)) × (steps ≡ outer ++ (step.Key k ∷ [])) × RefusesBefore b text outer k.now value e)

-- without the entry at the steps, alone or with the comments before it: the whole value is none
abbrev pub RemovesEntry : (alone : Bool) → (text : List ℕ) → List Step → (made : List ℕ) → Type 0
RemovesEntry true text steps made = IsRemovedAlone text steps made
RemovesEntry false text steps made = IsRemoved text steps made

abbrev pub RefusesRemoving : List ℕ → List Step → EditError → Type 0
RefusesRemoving text steps error.NoKey = steps ≡ []
RefusesRemoving text steps e = RefusesPath text steps e

-- `Failed` isn't excluded
abbrev pub RefusesCommenting : List ℕ → List Step → EditError → Type 0
RefusesCommenting text steps error.Failed = ⊤
RefusesCommenting text steps e = RefusesRemoving text steps e

-- after some operations of a JSON Patch, one after the other
abbrev pub IsPatched : List ℕ → List ℕ → Type 0
IsPatched text made = (operations : List Operation) × ChangesBy (Patches operations) text made

-- after the merge patch that is read of these bytes
abbrev pub IsMerged : List ℕ → List ℕ → List ℕ → Type 0
IsMerged text patch made = (t : Tree) × Doc max_depth (chars patch) t × ChangesBy (Merges (datum_of t)) text made

-- ---- a value that goes to another place

-- the token of a JSON pointer that is written for a step
abbrev pub IsTokenOf : Step → List ℕ → Type 0
IsTokenOf (step.Key k) token = token ≡ k.now
IsTokenOf (step.Index i) token = token ≡ decimal i

abbrev pub AreTokensOf : List Step → List (String Global) → Type 0
AreTokensOf [] [] = ⊤
AreTokensOf (s ∷ ss) (w ∷ ws) = IsTokenOf s (string_bytes w) × AreTokensOf ss ws
AreTokensOf _ _ = ⊥

-- taken out at the steps and added at a place, or added there too, as JSON Patches have it
abbrev pub IsMoved : List ℕ → List Step → List ℕ → Type 0
IsMoved text steps made = (from : List (String Global)) × AreTokensOf steps from × ((path : List (String Global)) × ChangesBy (Moves from path) text made)

abbrev pub IsCopied : List ℕ → List Step → List ℕ → Type 0
IsCopied text steps made = (from : List (String Global)) × AreTokensOf steps from × ((path : List (String Global)) × ChangesBy (Copies from path) text made)

-- ---- each work

-- the work on this text, at these steps, with this value; what a comment says isn't promised
abbrev pub Makes : Command → List ℕ → List Step → List ℕ → List ℕ → Type 0
Makes (work.Show v) text steps value made = IsShownAt v text steps made
Makes work.Set text steps value made = IsSet text steps value made
Makes work.Insert text steps value made = Inserts text steps value made
Makes (work.InsertBefore b) text steps value made = InsertsAhead b text steps value made
Makes work.Push text steps value made = IsPushed text steps value made
Makes work.Put text steps value made = IsPut text steps value made
Makes work.PutAbsent text steps value made = IsPutIfAbsent text steps value made
Makes work.Rename text steps value made = IsRekeyed text steps value made
Makes work.Move text steps value made = IsMoved text steps made
Makes work.Copy text steps value made = IsCopied text steps made
Makes work.ShowComment text steps value made = ⊤
Makes work.Comment text steps value made = IsCommented text steps made
Makes work.RemoveAlone text steps value made = IsRemovedAlone text steps made
Makes work.Remove text steps value made = IsRemoved text steps made
Makes work.Sort text steps value made = IsOrdered text steps made
Makes work.Apply text steps value made = IsPatched text made
Makes work.Merge text steps value made = IsMerged text value made

-- the same with this value; or with another that has its lexemes
abbrev pub MakesLaid : Command → List ℕ → List Step → List ℕ → List ℕ → Type 0
MakesLaid w text steps value made = Makes w text steps value made ⊎ (PutsValue w × ((placed : List ℕ) × HaveSameLexemes (chars value) (chars placed) × Makes w text steps placed made))

abbrev pub RefusesEdit : Command → List ℕ → List Step → List ℕ → EditError → Type 0
RefusesEdit (work.Show v) text steps value e = ⊥
RefusesEdit work.Set text steps value e = RefusesSet text steps value e
RefusesEdit work.Insert text steps value e = RefusesInserting text steps value e
RefusesEdit (work.InsertBefore b) text steps value e = RefusesAhead b text steps value e
RefusesEdit work.Push text steps value e = RefusesPush text steps value e
RefusesEdit work.Put text steps value e = RefusesPut text steps value e
RefusesEdit work.PutAbsent text steps value e = RefusesPut text steps value e
RefusesEdit work.Rename text steps value e = RefusesRename text steps value e
RefusesEdit work.Remove text steps value e = RefusesRemoving text steps e
RefusesEdit work.Comment text steps value e = RefusesCommenting text steps e
RefusesEdit work.ShowComment text steps value e = RefusesCommenting text steps e
RefusesEdit work.Sort text steps value e = RefusesSort text steps e
RefusesEdit work.RemoveAlone text steps value e = RefusesRemoving text steps e
RefusesEdit w text steps value e = ⊤

abbrev pub RefusesWork : Command → List ℕ → List Step → List ℕ → TextTrouble → Type 0
RefusesWork (work.Show v) text steps value x = RefusesShowing v text steps x
RefusesWork work.Move text steps value x = ⊤
RefusesWork work.Copy text steps value x = ⊤
RefusesWork work.Apply text steps value x = ⊤
RefusesWork work.Merge text steps value x = ⊤
RefusesWork w text steps value (trouble.Edit e) = RefusesEdit w text steps value e
RefusesWork w text steps value _ = ⊥

-- what an edit returns, as the work's own
abbrev pub edited : Result (String Global) EditError → Result (String Global) TextTrouble
edited (Ok made) = Ok made
edited (Err e) = Err (trouble.Edit e)
