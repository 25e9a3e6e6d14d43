-- What is read, and what is written of it.
-- A promise rests on this.
use Rattle.std.specs.Prelude.{◌≡◌, ◌⊎◌, ◌&&◌, ℕ, Bool, true, false, not, List, [], Option, None, Some, IfSome}
use Rattle.std.specs.Io.KnownBytes.{Appends, Keeps}
use lib.Chars.{codes}
use Rattle.json5_write.specs.Pieces.{AppendsFront}
use Rattle.cli_files.specs.declared.failure.Failure.{Failure}
use Rattle.cli_files.specs.declared.failure.Failure.TheVariants as failure
use Rattle.cli_files.specs.Inputs.{NoText}
use Rattle.cli_files.specs.Stores.{Known}
use Rattle.json5_edit.specs.PathTexts.{AreStepsOf, SpellsPath}
use Rattle.json5_edit.specs.Refusals.{RefusesPath}
use Rattle.json5_edit.specs.declared.faults.EditError.{EditError}
use Rattle.json5_edit.specs.declared.faults.EditError.TheVariants as error
use Rattle.json5_edit.specs.declared.path_texts.parsed.Path.{Path}
use Rattle.json5_edit.specs.declared.paths.Step.{Step}
use Rattle.cli_edit.specs.declared.requests.Source.{Source}
use Rattle.cli_edit.specs.declared.requests.Source.TheVariants as source
use Rattle.cli_edit.specs.declared.requests.Task.{Task}
use Rattle.cli_edit.specs.declared.trouble.TextTrouble.{TextTrouble}
use Rattle.cli_edit.specs.declared.trouble.TextTrouble.TheVariants as trouble
use Rattle.cli_edit.specs.Makes.{MakesLaid, RefusesWork}
use Rattle.cli_edit.specs.Requests.{IsSourceOf, is_shown, route_of}
use Rattle.cli_edit.specs.Troubles.{edit_status, read_status, text_trouble_status}
use Rattle.cli_edit.specs.Values.{Means}

-- ---- reading

-- the name of standard input
abbrev pub stream_word : List ℕ
stream_word = codes "-"

-- the text of a file, if its bytes are known
abbrev pub FileHolds : Known → (file : List ℕ) → List ℕ → Type 0
FileHolds known file text = (held : Option (List ℕ)) × known.opens file (Some held) × IfSome held (λ bytes. text ≡ bytes)

-- what is read under this name: standard input, or the file
abbrev pub Holds : Known → (file : List ℕ) (input : Option (List ℕ)) → List ℕ → Type 0
Holds known file input text = ((file ≡ stream_word) × IfSome input (λ bytes. text ≡ bytes)) ⊎ FileHolds known file text

-- why no text was read of a file
abbrev pub FileHoldsNone : Known → (file : List ℕ) → Failure → Type 0
FileHoldsNone known file f = ((held : Option (List ℕ)) × known.opens file (Some held) × NoText held f) ⊎ (known.opens file None × (f ≡ failure.Read))

-- the same of what is read under this name
abbrev pub HoldsNone : Known → (file : List ℕ) (input : Option (List ℕ)) → Failure → Type 0
HoldsNone known file input f = ((file ≡ stream_word) × NoText input f) ⊎ FileHoldsNone known file f

-- what is given for VALUE: the word, or what is read there
abbrev pub IsGiven : Known → Source → (input : Option (List ℕ)) → List ℕ → Type 0
IsGiven known (source.Word w) input value = value ≡ w.now
IsGiven known source.Input input value = IfSome input (λ bytes. value ≡ bytes)
IsGiven known (source.File f) input value = FileHolds known f.now value

-- what is given there for the task
abbrev pub IsGivenFor : Known → Task → (input : Option (List ℕ)) → List ℕ → Type 0
IsGivenFor known t input value = (s : Source) × IsSourceOf t s × IsGiven known s input value

-- ---- writing

-- what is shown goes to output, and so does what standard input was changed to
abbrev pub GoesOut : Task → Type 0
GoesOut t = (is_shown t.work ≡ true) ⊎ (t.file.now ≡ stream_word)

-- the new text was written out; or the file has it
pub data PutsNew (known : Known) (t : Task) (old new : List ℕ) (output written : Option (List ℕ)) : Type 0 where
  out : GoesOut t → Appends output written new → PutsNew known t old new output written
  same : ¬ (GoesOut t) → old ≡ new → Keeps output written → PutsNew known t old new output written
  replaced : ¬ (GoesOut t) → known.replaces t.file.now old new None → Keeps output written → PutsNew known t old new output written

-- a prefix of it was written out; or nothing, and the file holds what it held
abbrev pub PutsNoNew : Known → Task → (old new : List ℕ) → (output written : Option (List ℕ)) → TextTrouble → Type 0
PutsNoNew known t old new output written (trouble.Failed f) = GoesOut t × (f ≡ failure.Write) × AppendsFront output written new
PutsNoNew known t old new output written (trouble.Unwritten u) = ¬ (GoesOut t) × known.replaces t.file.now old new (Some u) × Keeps output written
PutsNoNew known t old new output written _ = ⊥

-- whether it is only written out what changes
abbrev pub is_tried : Task → Bool
is_tried t = t.is_dry && not (is_shown t.work)

abbrev pub PutsBy : (is_tried : Bool) → Known → Task → (old new : List ℕ) → (output written : Option (List ℕ)) → Type 0
PutsBy true known t old new output written = (changes : List ℕ) × Appends output written changes
PutsBy false known t old new output written = PutsNew known t old new output written

abbrev pub Puts : Known → Task → (old new : List ℕ) → (output written : Option (List ℕ)) → Type 0
Puts known t old new output written = PutsBy (is_tried t) known t old new output written

-- or a prefix of that, or memory ran out
abbrev pub ShowsNoChanges : (output written : Option (List ℕ)) → TextTrouble → Type 0
ShowsNoChanges output written (trouble.Edit e) = (e ≡ error.NoMemory) × Keeps output written
ShowsNoChanges output written (trouble.Failed f) = (f ≡ failure.Write) × ((changes : List ℕ) × AppendsFront output written changes)
ShowsNoChanges output written _ = ⊥

abbrev pub PutsNotBy : (is_tried : Bool) → Known → Task → (old new : List ℕ) → (output written : Option (List ℕ)) → TextTrouble → Type 0
PutsNotBy true known t old new output written x = ShowsNoChanges output written x
PutsNotBy false known t old new output written x = PutsNoNew known t old new output written x

abbrev pub PutsNot : Known → Task → (old new : List ℕ) → (output written : Option (List ℕ)) → TextTrouble → Type 0
PutsNot known t old new output written x = PutsNotBy (is_tried t) known t old new output written x

-- ---- a task

-- the steps in the text that a path means which is spelled so
abbrev pub StepsSpelled : (route text : List ℕ) → List Step → Type 0
StepsSpelled route text steps = (path : Path) × SpellsPath path route × AreStepsOf text path.written.items steps

-- what was asked for was made of the text, with this value, and put where it goes
abbrev pub Works : Known → Task → List ℕ → List Step → List ℕ → Option (List ℕ) → Option (List ℕ) → Type 0
Works known t text steps value output written = (made : List ℕ) × MakesLaid t.work text steps value made × Puts known t text made output written

-- it wasn't made, or it wasn't put there
abbrev pub WorksNot : Known → Task → List ℕ → List Step → List ℕ → Option (List ℕ) → Option (List ℕ) → TextTrouble → Type 0
WorksNot known t text steps value output written x =
    (RefusesWork t.work text steps value x × Keeps output written) ⊎ ((made : List ℕ) × MakesLaid t.work text steps value made × PutsNot known t text made output written x)

-- with what is given for VALUE, and the text that was read: what output and errors held before and after, and the status
pub data DoesAt (known : Known) (path : Path) (t : Task) (given text : List ℕ) (output errors written : Option (List ℕ)) : Option (List ℕ) → ℕ → Type 0 where
  -- nothing was said
  worked : (steps : List Step) (value : List ℕ) → AreStepsOf text path.written.items steps → Means t given value → Works known t text steps value output written → DoesAt known path t given text output errors written errors 0
  stopped : {said : Option (List ℕ)} (steps : List Step) (value : List ℕ) (x : TextTrouble) → AreStepsOf text path.written.items steps → Means t given value
      → WorksNot known t text steps value output written x → DoesAt known path t given text output errors written said (text_trouble_status x)
  -- the steps of the path aren't known, since the text is no document; or memory ran out
  no_steps : {said : Option (List ℕ)} (e : EditError) → RefusesPath text [] e → Keeps output written → DoesAt known path t given text output errors written said (edit_status e)

pub data DoesWith (known : Known) (path : Path) (t : Task) (given : List ℕ) (input output errors written said : Option (List ℕ)) : ℕ → Type 0 where
  reads : {status : ℕ} (text : List ℕ) → Holds known t.file.now input text → DoesAt known path t given text output errors written said status → DoesWith known path t given input output errors written said status
  reads_none : (f : Failure) → HoldsNone known t.file.now input f → Keeps output written → DoesWith known path t given input output errors written said (read_status f)

pub data Does (known : Known) (t : Task) (input output errors written said : Option (List ℕ)) : ℕ → Type 0 where
  does_with : {status : ℕ} (path : Path) (given : List ℕ) → SpellsPath path (route_of t) → IsGivenFor known t input given → DoesWith known path t given input output errors written said status → Does known t input output errors written said status
  -- the path isn't spelled as one, VALUE can't be read, or memory ran out
  not_begun : Keeps output written → Does known t input output errors written said 2
