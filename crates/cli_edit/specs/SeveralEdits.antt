-- Several edits of a text or of a file, one after the other.
-- A promise rests on this.
use Rattle.std.specs.declared.alloc.Global.{Global}
use Rattle.std.specs.Prelude.{⊤, ◌≡◌, ◌⊎◌, ℕ, List, [], ◌∷◌, ◌++◌, length, IfSome, None, Option, Some, String, string_bytes}
use Rattle.cli_files.specs.Stores.{Known}
use Rattle.json5_edit.specs.PathTexts.{AreStepsOf}
use Rattle.json5_edit.specs.Refusals.{RefusesPath}
use Rattle.json5_edit.specs.declared.faults.EditError.{EditError}
use Rattle.json5_edit.specs.declared.faults.EditError.TheVariants as error
use Rattle.json5_edit.specs.declared.path_texts.parsed.Path.{Path}
use Rattle.json5_edit.specs.declared.paths.Step.{Step}
use Rattle.cli_edit.specs.declared.requests.Command.{Command}
use Rattle.cli_edit.specs.declared.requests.Command.TheVariants as work
use Rattle.cli_edit.specs.declared.requests.Task.{Task}
use Rattle.cli_edit.specs.declared.several_edits.Edit.{Edit}
use Rattle.cli_edit.specs.declared.several_edits.Edit.TheVariants as edit
use Rattle.cli_edit.specs.declared.several_edits.EditsError.{EditsError}
use Rattle.cli_edit.specs.declared.several_edits.EditFileError.{EditFileError}
use Rattle.cli_edit.specs.declared.several_edits.EditFileError.TheVariants as file_error
use Rattle.cli_edit.specs.declared.trouble.TextTrouble.{TextTrouble}
use Rattle.cli_edit.specs.declared.trouble.TextTrouble.TheVariants as trouble
use Rattle.cli_edit.specs.Makes.{MakesLaid, RefusesWork}
use Rattle.cli_edit.specs.Values.{Means, MeansGiven}
use Rattle.cli_edit.specs.Works.{FileHolds, FileHoldsNone, StepsSpelled}

-- ---- one edit

abbrev pub work_of : Edit → Command
work_of (edit.Set p v) = work.Set
work_of (edit.Insert p v) = work.Insert
work_of (edit.InsertBefore p b v) = work.InsertBefore b
work_of (edit.Push p v) = work.Push
work_of (edit.Put p v) = work.Put
work_of (edit.PutIfAbsent p v) = work.PutAbsent
work_of (edit.Rename p k) = work.Rename
work_of (edit.Move p t) = work.Move
work_of (edit.Copy p t) = work.Copy
work_of (edit.Remove p) = work.Remove
work_of (edit.RemoveAlone p) = work.RemoveAlone
work_of (edit.Comment p t) = work.Comment
work_of (edit.Sort p) = work.Sort

abbrev pub path_of : Edit → List ℕ
path_of (edit.Set p v) = p.now
path_of (edit.Insert p v) = p.now
path_of (edit.InsertBefore p b v) = p.now
path_of (edit.Push p v) = p.now
path_of (edit.Put p v) = p.now
path_of (edit.PutIfAbsent p v) = p.now
path_of (edit.Rename p k) = p.now
path_of (edit.Move p t) = p.now
path_of (edit.Copy p t) = p.now
path_of (edit.Remove p) = p.now
path_of (edit.RemoveAlone p) = p.now
path_of (edit.Comment p t) = p.now
path_of (edit.Sort p) = p.now

-- its value, key, path or comment
abbrev pub given_of : Edit → List ℕ
given_of (edit.Set p v) = v.now
given_of (edit.Insert p v) = v.now
given_of (edit.InsertBefore p b v) = v.now
given_of (edit.Push p v) = v.now
given_of (edit.Put p v) = v.now
given_of (edit.PutIfAbsent p v) = v.now
given_of (edit.Rename p k) = k.now
given_of (edit.Move p t) = t.now
given_of (edit.Copy p t) = t.now
given_of (edit.Comment p t) = t.now
given_of _ = []

-- it is made of the text, as the program does it
abbrev pub EditsTo : Edit → (text made : List ℕ) → Type 0
EditsTo e text made = (steps : List Step) × (value : List ℕ) × StepsSpelled (path_of e) text steps × MeansGiven (work_of e) (given_of e) value × MakesLaid (work_of e) text steps value made

-- why it isn't: its path isn't spelled as one, the text is no document, or the program refuses it
abbrev pub RefusesTo : Edit → (text : List ℕ) → TextTrouble → Type 0
RefusesTo e text (trouble.NoPath p) = ⊤
RefusesTo e text x = ((why : EditError) × (x ≡ trouble.Edit why) × RefusesPath text [] why) ⊎ ((steps : List Step) × (value : List ℕ) × StepsSpelled (path_of e) text steps × MeansGiven (work_of e) (given_of e) value × RefusesWork (work_of e) text steps value x)

-- ---- all of them

abbrev pub EditsAll : List Edit → (text made : List ℕ) → Type 0
EditsAll [] text made = made ≡ text
EditsAll (e ∷ es) text made = (between : List ℕ) × EditsTo e text between × EditsAll es between made

-- the path is that of the edit, if there was memory for it
abbrev pub IsPathOf : Edit → Option (String Global) → Type 0
IsPathOf e path = IfSome path (λ p. string_bytes p ≡ path_of e)

-- those before one are made, and that one isn't; or memory ran out
pub data RefusesAll (es : List Edit) (text : List ℕ) (x : EditsError) : Type 0 where
  full : x.trouble ≡ trouble.Edit error.NoMemory → x.path ≡ None → RefusesAll es text x
  stopped : (before after : List Edit) (e : Edit) (between : List ℕ) → es ≡ before ++ (e ∷ after) → length before ≡ x.edit → IsPathOf e x.path → EditsAll before text between → RefusesTo e between x.trouble → RefusesAll es text x

-- ---- a file

-- the file holds the new text
abbrev pub FillsFile : Known → (file old new : List ℕ) → Type 0
FillsFile known file old new = (old ≡ new) ⊎ known.replaces file old new None

-- it holds what it held, or at `Torn` another one does
abbrev pub LeavesFile : Known → (file old new : List ℕ) → EditFileError → Type 0
LeavesFile known file old new (file_error.Unwritten why) = known.replaces file old new (Some why)
LeavesFile known file old new _ = ⊥

abbrev pub EditsFile : Known → (file : List ℕ) → List Edit → Type 0
EditsFile known file es = (old : List ℕ) × (new : List ℕ) × FileHolds known file old × EditsAll es old new × FillsFile known file old new

abbrev pub RefusesFile : Known → (file : List ℕ) → List Edit → EditFileError → Type 0
RefusesFile known file es (file_error.Unread f) = FileHoldsNone known file f
RefusesFile known file es (file_error.Unmade x) = (old : List ℕ) × FileHolds known file old × RefusesAll es old x
RefusesFile known file es (file_error.Unwritten why) = (old : List ℕ) × (new : List ℕ) × FileHolds known file old × EditsAll es old new × known.replaces file old new (Some why)

-- ---- a task. Private clauses cite these.

abbrev pub DoesTask : Path → Task → (given text made : List ℕ) → Type 0
DoesTask path t given text made = (steps : List Step) × (value : List ℕ) × AreStepsOf text path.written.items steps × Means t given value × MakesLaid t.work text steps value made

abbrev pub RefusesTask : Path → Task → (given text : List ℕ) → TextTrouble → Type 0
RefusesTask path t given text x =
    ((why : EditError) × (x ≡ trouble.Edit why) × RefusesPath text [] why)
    ⊎ ((steps : List Step) × (value : List ℕ) × AreStepsOf text path.written.items steps × Means t given value × RefusesWork t.work text steps value x)
