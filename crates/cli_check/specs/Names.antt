-- One name of the command line after another, each of a file, of a folder or of standard input.
-- A promise rests on this.
use Rattle.std.specs.declared.alloc.Global.{Global}
use Rattle.std.specs.Prelude.{◌≡◌, ◌≢◌, ℕ, Bool, true, false, List, [], ◌∷◌, ◌++◌, max, Option, String, string_bytes}
use lib.Chars.{codes}
use Rattle.json5_types.specs.ValueMeanings.{Datum}
use Rattle.cli_files.specs.Folders.{StandsFor}
use Rattle.cli_files.specs.NameLists.{names_of}
use Rattle.cli_files.specs.Stores.{Known}
use Rattle.cli_check.specs.declared.options.Options.{Options}
use Rattle.cli_check.specs.Checks.{ChecksThrough}

-- this name of the command line stands for these files: standard input for itself, and a folder for those below it
pub data Stands (known : Known) (o : Options) (name : List ℕ) : (found : List (List ℕ)) → Type 0 where
  stream : name ≡ codes "-" → Stands known o name (name ∷ [])
  named : {found : List (List ℕ)} → name ≢ codes "-" → StandsFor known o.endings.items o.excluded.items name found → Stands known o name found

-- the files that a name stands for were checked, and the work goes on or not; or there is none, or no memory for their names
pub data ChecksBelow (known : Known) (given : Option Datum) (o : Options) (input : Option (List ℕ)) (name : List ℕ) : Option (List ℕ) → ℕ → (goes_on : Bool) → Type 0 where
  checked : {left : Option (List ℕ)} {status : ℕ} {goes_on : Bool} (files : List (String Global)) → files ≢ [] → Stands known o name (names_of files)
      → ChecksThrough known given o input files left status goes_on → ChecksBelow known given o input name left status goes_on
  no_file : Stands known o name [] → ChecksBelow known given o input name input 2 true
  no_memory : ChecksBelow known given o input name input 2 true

-- what standard input had left after the files of these names, the greatest status that was met, and whether the work goes on
pub data ChecksEach (known : Known) (given : Option Datum) (o : Options) (input : Option (List ℕ)) : List (String Global) → Option (List ℕ) → ℕ → (goes_on : Bool) → Type 0 where
  none : ChecksEach known given o input [] input 0 true
  next : {names : List (String Global)} {left more : Option (List ℕ)} {status met : ℕ} {goes_on : Bool} (name : String Global) → ChecksEach known given o input names left status true
      → ChecksBelow known given o left (string_bytes name) more met goes_on → ChecksEach known given o input (names ++ name ∷ []) more (max status met) goes_on

-- the files of all names were checked, or those up to one where a write failed
pub data ChecksNames (known : Known) (given : Option Datum) (o : Options) (input : Option (List ℕ)) : ℕ → Type 0 where
  through : {left : Option (List ℕ)} {status : ℕ} → ChecksEach known given o input o.names.items left status true → ChecksNames known given o input status
  stopped : {left : Option (List ℕ)} {status : ℕ} (names rest : List (String Global)) → o.names.items ≡ names ++ rest → ChecksEach known given o input names left status false
      → ChecksNames known given o input status
