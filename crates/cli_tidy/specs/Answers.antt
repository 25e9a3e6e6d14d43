-- What the program answers.
-- A promise rests on this.
use Rattle.std.specs.declared.alloc.Global.{Global}
use Rattle.std.specs.Prelude.{◌++◌, ◌∷◌, ℕ, List, [], Option, IfSome, String}
use lib.Chars.{codes}
use Rattle.json5_grammar.specs.Language.Characters.{line_feed}
use Rattle.json5_write.specs.Pieces.{AppendsFront}
use Rattle.cli_files.specs.declared.version.TheConstants.{VERSION}
use Rattle.cli_tidy.specs.declared.reports.TheConstants.{HELP}
use Rattle.cli_tidy.specs.declared.options.Options.{Options}
use Rattle.cli_tidy.specs.declared.requests.TidyRequest.{TidyRequest}
use Rattle.cli_tidy.specs.declared.requests.TidyRequest.TheVariants as requests
use Rattle.cli_tidy.specs.declared.trouble.FileTrouble.{FileTrouble}
use Rattle.cli_tidy.specs.CommandWords.{Asks, AsksNothing, input_name}
use Rattle.cli_tidy.specs.Names.{WorksThroughNames}
use Rattle.cli_files.specs.Says.{SaysText}
use Rattle.cli_files.specs.Stores.{Known}
use Rattle.cli_tidy.specs.Tidies.{TidyTrouble, WritesTidied}
use Rattle.cli_tidy.specs.Troubles.{SaysUsage, memory_line, trouble_line, file_trouble_status}

-- what was read, what output and errors held before and after, and the status
pub data AnswersStream (options : Options) (input output written errors : Option (List ℕ)) : Option (List ℕ) → ℕ → Type 0 where
  -- it wrote the document tidied
  tidies : IfSome input (WritesTidied options.style.stars options.style.last_commas (input_name options) output written) → AnswersStream options input output written errors errors 0
  -- it said why it stopped
  fails : {said : Option (List ℕ)} (e : FileTrouble) → TidyTrouble options.style.stars options.style.last_commas (input_name options) input output written e
      → AppendsFront errors said (trouble_line (input_name options) e) → AnswersStream options input output written errors said (file_trouble_status e)

abbrev pub version_text : List ℕ
version_text = codes "json5_tidy " ++ (VERSION.now ++ line_feed ∷ [])

-- what a request is answered with
abbrev pub AnswersRequest : Known → TidyRequest → (input output errors : Option (List ℕ)) → (written said : Option (List ℕ)) → ℕ → Type 0
AnswersRequest known requests.Help input output errors written said status = SaysText HELP.now output written errors said status
AnswersRequest known requests.Version input output errors written said status = SaysText version_text output written errors said status
AnswersRequest known (requests.Stream options) input output errors written said status = AnswersStream options input output written errors said status
AnswersRequest known (requests.Files f) input output errors written said status = WorksThroughNames known f output errors written said status

-- the words, what was read, what output and errors held before and after, and the status
pub data TidyAnswers (known : Known) (list : List (String Global)) (input output errors : Option (List ℕ)) : Option (List ℕ) → Option (List ℕ) → ℕ → Type 0 where
  -- it did what they ask for
  answers : {written said : Option (List ℕ)} {status : ℕ} (request : TidyRequest) → Asks list request
      → AnswersRequest known request input output errors written said status → TidyAnswers known list input output errors written said status
  -- they ask for nothing, and it said how it is called
  says_usage : {said : Option (List ℕ)} → AsksNothing list → SaysUsage errors said → TidyAnswers known list input output errors output said 2
  -- memory ran out before any work began
  no_memory : {said : Option (List ℕ)} → AppendsFront errors said memory_line → TidyAnswers known list input output errors output said 2
