-- Work on one file after another.
-- A promise rests on this.
use Rattle.std.specs.declared.alloc.Global.{Global}
use Rattle.std.specs.Prelude.{◌≡◌, ◌≢◌, ◌⊎◌, ⊤, ℕ, Bool, true, false, List, [], ◌∷◌, ◌++◌, max, Option, None, Some, IfSome, Result, Ok, Err, String, string_bytes}
use lib.Chars.{codes}
use Rattle.std.specs.Io.KnownBytes.{Appends, Keeps}
use Rattle.json5_write.specs.Pieces.{AppendsFront}
use Rattle.cli_files.specs.declared.failure.Failure.{Failure}
use Rattle.cli_files.specs.declared.failure.Failure.TheVariants as failure
use Rattle.cli_files.specs.declared.reason.Reason.{Reason}
use Rattle.cli_files.specs.declared.unwritten.Unwritten.{Unwritten}
use Rattle.cli_files.specs.Stores.{Opening}
use Rattle.cli_files.specs.ShownNames.{shown_name}
use Rattle.cli_tidy.specs.declared.files.Outcome.{Outcome}
use Rattle.cli_tidy.specs.declared.files.Outcome.TheVariants as outcome
use Rattle.cli_tidy.specs.declared.requests.FileRequest.{FileRequest}
use Rattle.cli_tidy.specs.declared.tidied.Tidied.{Tidied}
use Rattle.cli_tidy.specs.declared.trouble.FileTrouble.{FileTrouble}
use Rattle.cli_tidy.specs.declared.trouble.FileTrouble.TheVariants as trouble
use Rattle.cli_tidy.specs.declared.work.FileWork.{FileWork}
use Rattle.cli_tidy.specs.declared.work.FileWork.TheVariants as work
use Rattle.cli_tidy.specs.Refusals.{IsTroubleOf}
use Rattle.cli_files.specs.Stores.{Known, Replacing}
use Rattle.cli_tidy.specs.Tidies.{Tidies}
use Rattle.cli_tidy.specs.Troubles.{trouble_line, file_trouble_status}

abbrev pub name_line : List ℕ → List ℕ
name_line name = shown_name name ++ codes "\n"

-- the texts were written, or a prefix of them was
abbrev pub PutsTexts : Outcome → List ℕ → (old new : Option (List ℕ)) → Result Outcome FileTrouble → Type 0
PutsTexts o texts old new (Ok result) = (result ≡ o) × Appends old new texts
PutsTexts o texts old new (Err e) = (e ≡ trouble.Failed failure.Write) × AppendsFront old new texts

-- a line was written, or a prefix of it was, or memory ran out before
abbrev pub PutsStyle : (old new : Option (List ℕ)) → Result Outcome FileTrouble → Type 0
PutsStyle old new result = ((line : List ℕ) × PutsTexts outcome.Tidy line old new result) ⊎ ((result ≡ Err (trouble.Failed failure.NoMemory)) × Keeps old new)

-- a write of a diff failed, or memory ran out before
abbrev pub DiffFailure : (old new : Option (List ℕ)) → Failure → Type 0
DiffFailure old new failure.Write = ⊤
DiffFailure old new failure.NoMemory = Keeps old new
DiffFailure old new s = ⊥

-- a diff was written, or a write failed, or memory ran out before
abbrev pub PutsDiff : (old new : Option (List ℕ)) → Result Outcome FileTrouble → Type 0
PutsDiff old new (Ok result) = result ≡ outcome.Untidy
PutsDiff old new (Err (trouble.Failed failure.Write)) = ⊤
PutsDiff old new (Err (trouble.Failed failure.NoMemory)) = Keeps old new
PutsDiff old new (Err e) = ⊥

-- the file was replaced, and its name may have been written, or a write of that failed; or it holds what it held
abbrev pub PutsFile : (Option Unwritten → Type 0) → (name : List ℕ) → (old new : Option (List ℕ)) → Result Outcome FileTrouble → Type 0
PutsFile Replaces name old new (Ok result) = (result ≡ outcome.Tidy) × Replaces None × (Keeps old new ⊎ Appends old new (name_line name))
PutsFile Replaces name old new (Err (trouble.Failed failure.Write)) = Replaces None × AppendsFront old new (name_line name)
PutsFile Replaces name old new (Err (trouble.Unwritten u)) = Replaces (Some u) × Keeps old new
PutsFile Replaces name old new (Err e) = ⊥

-- the work on a file with these texts, before and after tidying, and what output held before and after it
abbrev pub WorksOnTexts : Replacing → FileWork → (name before after : List ℕ) → (old new : Option (List ℕ)) → Result Outcome FileTrouble → Type 0
WorksOnTexts replaces work.Check name before after old new (Ok outcome.Tidy) = (before ≡ after) × Keeps old new
WorksOnTexts replaces work.Check name before after old new (Ok outcome.Untidy) = (before ≢ after) × Appends old new (name_line name)
WorksOnTexts replaces work.Check name before after old new (Err (trouble.Failed failure.Write)) = (before ≢ after) × AppendsFront old new (name_line name)
WorksOnTexts replaces work.Diff name before after old new (Ok outcome.Tidy) = (before ≡ after) × Keeps old new
WorksOnTexts replaces work.Diff name before after old new (Ok outcome.Untidy) = before ≢ after
WorksOnTexts replaces work.Diff name before after old new (Err (trouble.Failed failure.Write)) = before ≢ after
WorksOnTexts replaces work.Diff name before after old new (Err (trouble.Failed failure.NoMemory)) = Keeps old new
WorksOnTexts replaces work.Print name before after old new (Ok result) = (result ≡ outcome.Tidy) × Appends old new after
WorksOnTexts replaces work.Print name before after old new (Err (trouble.Failed failure.Write)) = AppendsFront old new after
WorksOnTexts replaces work.Write name before after old new result =
    ((result ≡ Ok outcome.Tidy) × (before ≡ after) × Keeps old new) ⊎ ((before ≢ after) × PutsFile (replaces before after) name old new result)
WorksOnTexts replaces work.Style name before after old new result = PutsStyle old new result
WorksOnTexts replaces w name before after old new result = ⊥

-- the same of the texts that were kept
abbrev pub WorksOnTidied : Known → FileWork → (name : List ℕ) → Tidied → (old new : Option (List ℕ)) → Result Outcome FileTrouble → Type 0
WorksOnTidied known w name t = WorksOnTexts (known.replaces name) w name (string_bytes t.before) (string_bytes t.after)

-- the file was opened, what it held was tidied, and the work was done on that; or it held no document; or it could not be opened
pub data WorksOn (opens : Opening) (replaces : Replacing) (request : FileRequest) (name : List ℕ) (old new : Option (List ℕ)) (result : Result Outcome FileTrouble) : Type 0 where
  worked : (held : Option (List ℕ)) (before after : List ℕ) → opens (Some held) → IfSome held (λ known. before ≡ known) → Tidies request.options.style.stars request.options.style.last_commas name before after
      → WorksOnTexts replaces request.work name before after old new result → WorksOn opens replaces request name old new result
  refused : (held : Option (List ℕ)) (e : FileTrouble) → opens (Some held) → IsTroubleOf name held e → result ≡ Err e → Keeps old new → WorksOn opens replaces request name old new result
  unopened : (why : Reason) → opens None → result ≡ Err (trouble.Unopened why) → Keeps old new → WorksOn opens replaces request name old new result

-- the work on this file, and what output held before and after it
abbrev pub WorksOnFile : Known → FileRequest → (name : List ℕ) → (old new : Option (List ℕ)) → Result Outcome FileTrouble → Type 0
WorksOnFile known request name = WorksOn (known.opens name) (known.replaces name) request name

-- what output and errors held before and after the files, and the greatest status that was met
pub data GoesThrough (known : Known) (request : FileRequest) (output errors : Option (List ℕ)) : List (String Global) → Option (List ℕ) → Option (List ℕ) → ℕ → Type 0 where
  none : GoesThrough known request output errors [] output errors 0
  tidy : {names : List (String Global)} {before after said : Option (List ℕ)} {status : ℕ} (name : String Global) → GoesThrough known request output errors names before said status
      → WorksOnFile known request (string_bytes name) before after (Ok outcome.Tidy) → GoesThrough known request output errors (names ++ name ∷ []) after said status
  untidy : {names : List (String Global)} {before after said : Option (List ℕ)} {status : ℕ} (name : String Global) → GoesThrough known request output errors names before said status
      → WorksOnFile known request (string_bytes name) before after (Ok outcome.Untidy) → GoesThrough known request output errors (names ++ name ∷ []) after said (max status 1)
  bad : {names : List (String Global)} {before after said more : Option (List ℕ)} {status : ℕ} (name : String Global) (e : FileTrouble) → GoesThrough known request output errors names before said status
      → WorksOnFile known request (string_bytes name) before after (Err e) → e ≢ trouble.Failed failure.Write → AppendsFront said more (trouble_line (string_bytes name) e)
      → GoesThrough known request output errors (names ++ name ∷ []) after more (max status (file_trouble_status e))

-- it goes through all files, or to a failed write; and whether it went through all
pub data WorksThrough (known : Known) (request : FileRequest) (output errors : Option (List ℕ)) : List (String Global) → Option (List ℕ) → Option (List ℕ) → ℕ → Bool → Type 0 where
  through : {names : List (String Global)} {after said : Option (List ℕ)} {status : ℕ} → GoesThrough known request output errors names after said status
      → WorksThrough known request output errors names after said status true
  stopped : {all names : List (String Global)} {before after said more : Option (List ℕ)} {status : ℕ} (name : String Global) (rest : List (String Global))
      → all ≡ names ++ name ∷ rest → GoesThrough known request output errors names before said status → WorksOnFile known request (string_bytes name) before after (Err (trouble.Failed failure.Write))
      → AppendsFront said more (trouble_line (string_bytes name) (trouble.Failed failure.Write)) → WorksThrough known request output errors all after more (max status 2) false
