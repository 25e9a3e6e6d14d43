-- What the program answers.
-- A promise rests on this.
use Rattle.std.specs.declared.alloc.Global.{Global}
use Rattle.std.specs.Prelude.{◌++◌, ◌∷◌, ℕ, List, [], Option, String}
use lib.Chars.{codes}
use Rattle.json5_grammar.specs.Language.Characters.{line_feed}
use Rattle.cli_files.specs.NameLists.{names_of}
use Rattle.cli_files.specs.Says.{SaysText}
use Rattle.cli_files.specs.Stores.{Known}
use Rattle.cli_files.specs.declared.version.TheConstants.{VERSION}
use Rattle.cli_edit.specs.declared.lines.TheConstants.{HELP}
use Rattle.cli_edit.specs.declared.requests.Task.{Task}
use Rattle.cli_edit.specs.declared.requests.EditRequest.TheVariants as requests
use Rattle.cli_edit.specs.Requests.{Asks, AsksNothing}
use Rattle.cli_edit.specs.Works.{Does}

abbrev pub version_text : List ℕ
version_text = codes "json5_edit " ++ (VERSION.now ++ line_feed ∷ [])

-- the words, what was read, what output and errors held before and after, and the status
pub data EditAnswers (known : Known) (words : List (String Global)) (input output errors : Option (List ℕ)) : Option (List ℕ) → Option (List ℕ) → ℕ → Type 0 where
  helps : {written said : Option (List ℕ)} {status : ℕ} → Asks (names_of words) requests.Help → SaysText HELP.now output written errors said status
      → EditAnswers known words input output errors written said status
  tells_version : {written said : Option (List ℕ)} {status : ℕ} → Asks (names_of words) requests.Version → SaysText version_text output written errors said status
      → EditAnswers known words input output errors written said status
  does : {written said : Option (List ℕ)} {status : ℕ} (t : Task) → Asks (names_of words) (requests.Task t) → Does known t input output errors written said status
      → EditAnswers known words input output errors written said status
  -- it said how it is called
  says_usage : {said : Option (List ℕ)} → AsksNothing (names_of words) → EditAnswers known words input output errors output said 2
