-- What the program answers.
-- A promise rests on this.
use Rattle.std.specs.declared.alloc.Global.{Global}
use Rattle.std.specs.Prelude.{◌≡◌, ◌≢◌, ℕ, List, [], Option, None, Some, String, string_bytes}
use Rattle.json5_write.specs.Pieces.{AppendsFront}
use Rattle.json5_types.specs.ValueMeanings.{Datum}
use Rattle.cli_files.specs.Says.{SaysText}
use Rattle.cli_files.specs.Stores.{Known}
use Rattle.cli_check.specs.declared.lines.TheConstants.{HELP}
use Rattle.cli_check.specs.declared.options.Options.{Options}
use Rattle.cli_check.specs.declared.options.Asked.{Asked}
use Rattle.cli_check.specs.declared.options.Asked.TheVariants as asked
use Rattle.cli_check.specs.declared.trouble.SchemaTrouble.{SchemaTrouble}
use Rattle.cli_check.specs.Schemas.{FileMeans, IsFlawOf}
use Rattle.cli_check.specs.CommandWords.{Asks, AsksNothing}
use Rattle.cli_check.specs.Names.{ChecksNames}
use Rattle.cli_check.specs.Troubles.{memory_line, usage_line, version_text}

-- the schema that is given is what its file means; or none is
pub data IsGiven (known : Known) (o : Options) : (given : Option Datum) → Type 0 where
  own : o.schema ≡ None → IsGiven known o None
  read : (file : String Global) (s : Datum) → o.schema ≡ Some file → FileMeans known o (string_bytes file) s → IsGiven known o (Some s)

-- the files that the names stand for were checked; or no schema is taken of the file that is given
pub data ChecksAll (known : Known) (o : Options) (input : Option (List ℕ)) : ℕ → Type 0 where
  checks : {status : ℕ} (given : Option Datum) → IsGiven known o given → ChecksNames known given o input status → ChecksAll known o input status
  no_schema : (file : String Global) (t : SchemaTrouble) → o.schema ≡ Some file → IsFlawOf known (string_bytes file) t → ChecksAll known o input 2

-- a name at least is given, and the files were checked; or it said how it is called
pub data AnswersFiles (known : Known) (o : Options) (input output errors : Option (List ℕ)) : Option (List ℕ) → Option (List ℕ) → ℕ → Type 0 where
  unnamed : {said : Option (List ℕ)} → o.names.items ≡ [] → AppendsFront errors said usage_line → AnswersFiles known o input output errors output said 2
  checked : {written said : Option (List ℕ)} {status : ℕ} → o.names.items ≢ [] → ChecksAll known o input status → AnswersFiles known o input output errors written said status

-- what is asked for is answered
abbrev pub AnswersAsked : Known → Options → Asked → (input output errors written said : Option (List ℕ)) → ℕ → Type 0
AnswersAsked known o asked.Help input output errors written said status = SaysText HELP.now output written errors said status
AnswersAsked known o asked.Version input output errors written said status = SaysText version_text output written errors said status
AnswersAsked known o asked.Files input output errors written said status = AnswersFiles known o input output errors written said status

abbrev pub AnswersOptions : Known → Options → (input output errors written said : Option (List ℕ)) → ℕ → Type 0
AnswersOptions known o = AnswersAsked known o o.asked

-- the words, what was read, what output and errors held before and after, and the status
pub data Answers (known : Known) (list : List (String Global)) (input output errors : Option (List ℕ)) : Option (List ℕ) → Option (List ℕ) → ℕ → Type 0 where
  -- it did what they ask for
  answers : {written said : Option (List ℕ)} {status : ℕ} (o : Options) → Asks list o → AnswersOptions known o input output errors written said status → Answers known list input output errors written said status
  -- they ask for nothing, and it said how it is called
  says_usage : {said : Option (List ℕ)} → AsksNothing list → AppendsFront errors said usage_line → Answers known list input output errors output said 2
  -- memory ran out before any work began
  no_memory : {said : Option (List ℕ)} → AppendsFront errors said memory_line → Answers known list input output errors output said 2
