-- What the program does with its words and its streams.
-- A promise rests on this.
use Rattle.std.specs.declared.alloc.Global.{Global}
use Rattle.std.specs.Prelude.{◌≡◌, ℕ, List, [], ◌∷◌, Option, IfSome, String, string_bytes}
use lib.Chars.{codes}
use Rattle.json5_write.specs.Pieces.{AppendsFront}
use Rattle.cli_files.specs.declared.failure.Failure.{Failure}
use Rattle.cli_fmt.specs.declared.work.Work.{Work}
use Rattle.cli_files.specs.Failures.{NamesMemory}
use Rattle.cli_files.specs.Stores.{Opening}
use Rattle.cli_fmt.specs.Files.{WorksThrough}
use Rattle.cli_files.specs.Reports.{report_line, status_of}
use Rattle.cli_fmt.specs.Reports.{usage_line}
use Rattle.cli_fmt.specs.Runs.{RunFailure, WritesFormatted}
use Rattle.cli_fmt.specs.CommandWords.{work_word, IsRequest}

-- what was read, what output and errors held before and after, and the status
pub data AnswersStream (input output written errors : Option (List ℕ)) : Option (List ℕ) → ℕ → Type 0 where
  -- it wrote the formatted document
  formats : IfSome input (WritesFormatted output written) → AnswersStream input output written errors errors 0
  -- it said why it stopped
  fails : {said : Option (List ℕ)} (s : Failure) → RunFailure input output written s → NamesMemory s
      → AppendsFront errors said (report_line (codes "stdin") s) → AnswersStream input output written errors said (status_of s)

-- the words, what was read, what output and errors held before and after, and the status
pub data Answers (opens : List ℕ → Opening) (input output errors : Option (List ℕ)) : List (String Global) → Option (List ℕ) → Option (List ℕ) → ℕ → Type 0 where
  -- there are no words
  of_stream : {written said : Option (List ℕ)} {status : ℕ} → AnswersStream input output written errors said status
      → Answers opens input output errors [] written said status
  -- there are a work and files
  of_files : {written said : Option (List ℕ)} {status : ℕ} (w : Work) (word name : String Global) (names : List (String Global)) → string_bytes word ≡ work_word w
      → WorksThrough opens w output errors (name ∷ names) written said status → Answers opens input output errors (word ∷ name ∷ names) written said status
  -- it said how it is called
  says_usage : {list : List (String Global)} {said : Option (List ℕ)} → ¬ (IsRequest list) → AppendsFront errors said usage_line
      → Answers opens input output errors list output said 2
