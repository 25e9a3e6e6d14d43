-- Work on one name of the command line after another, each of a file or a folder.
-- A promise rests on this.
use Rattle.std.specs.declared.alloc.Global.{Global}
use Rattle.std.specs.Prelude.{◌≡◌, ◌≢◌, ℕ, Bool, true, false, List, [], ◌∷◌, ◌++◌, max, Option, String, string_bytes}
use Rattle.json5_write.specs.Pieces.{AppendsFront}
use Rattle.cli_files.specs.declared.failure.Failure.TheVariants as failure
use Rattle.cli_tidy.specs.declared.requests.FileRequest.{FileRequest}
use Rattle.cli_tidy.specs.declared.trouble.FileTrouble.TheVariants as trouble
use Rattle.cli_tidy.specs.Files.{WorksThrough}
use Rattle.cli_files.specs.Folders.{StandsFor}
use Rattle.cli_files.specs.NameLists.{names_of}
use Rattle.cli_files.specs.Stores.{Known}
use Rattle.cli_tidy.specs.Troubles.{trouble_line}

-- this name of the command line stands for these files
abbrev pub Stands : Known → FileRequest → (name : List ℕ) → (found : List (List ℕ)) → Type 0
Stands known request = StandsFor known request.options.endings.items request.options.excluded.items

-- the work on all files that a name stands for, and whether it goes on; or there is none, which is said, or no memory for their names
pub data WorksBelow (known : Known) (request : FileRequest) (name : List ℕ) (output errors : Option (List ℕ)) : Option (List ℕ) → Option (List ℕ) → ℕ → Bool → Type 0 where
  worked : {after said : Option (List ℕ)} {status : ℕ} {goes_on : Bool} (files : List (String Global)) → files ≢ [] → Stands known request name (names_of files)
      → WorksThrough known request output errors files after said status goes_on → WorksBelow known request name output errors after said status goes_on
  no_file : {said : Option (List ℕ)} → Stands known request name [] → AppendsFront errors said (trouble_line name trouble.NoFile) → WorksBelow known request name output errors output said 2 true
  no_memory : {said : Option (List ℕ)} → AppendsFront errors said (trouble_line name (trouble.Failed failure.NoMemory)) → WorksBelow known request name output errors output said 2 true

-- the work on each of the names, what output and errors held before and after it, the greatest status that was met, and whether it goes on
pub data GoesThroughNames (known : Known) (request : FileRequest) (output errors : Option (List ℕ)) : List (String Global) → Option (List ℕ) → Option (List ℕ) → ℕ → Bool → Type 0 where
  none : GoesThroughNames known request output errors [] output errors 0 true
  next : {names : List (String Global)} {before after said more : Option (List ℕ)} {status met : ℕ} {goes_on : Bool} (name : String Global)
      → GoesThroughNames known request output errors names before said status true → WorksBelow known request (string_bytes name) before said after more met goes_on
      → GoesThroughNames known request output errors (names ++ name ∷ []) after more (max status met) goes_on

-- it goes through all names, or to one where a write failed
pub data WorksThroughNames (known : Known) (request : FileRequest) (output errors : Option (List ℕ)) : Option (List ℕ) → Option (List ℕ) → ℕ → Type 0 where
  through : {after said : Option (List ℕ)} {status : ℕ} → GoesThroughNames known request output errors request.names.items after said status true
      → WorksThroughNames known request output errors after said status
  stopped : {after said : Option (List ℕ)} {status : ℕ} (names rest : List (String Global)) → request.names.items ≡ names ++ rest
      → GoesThroughNames known request output errors names after said status false → WorksThroughNames known request output errors after said status
