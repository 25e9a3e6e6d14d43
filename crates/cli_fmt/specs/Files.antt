-- Work on one file after another.
-- A promise rests on this.
use Rattle.std.specs.declared.alloc.Global.{Global}
use Rattle.std.specs.Prelude.{◌≡◌, ◌≢◌, ℕ, List, [], ◌∷◌, ◌++◌, max, Option, None, Some, IfSome, Result, Ok, Err, IsErrAnd, String, string_bytes}
use Rattle.std.specs.Io.KnownBytes.{Keeps}
use Rattle.json5_write.specs.Pieces.{AppendsFront}
use Rattle.cli_files.specs.declared.failure.Failure.{Failure}
use Rattle.cli_files.specs.declared.failure.Failure.TheVariants as failure
use Rattle.cli_fmt.specs.declared.work.Work.{Work}
use Rattle.cli_fmt.specs.declared.work.Work.TheVariants as work
use Rattle.cli_files.specs.Reports.{report_line, status_of}
use Rattle.cli_files.specs.Stores.{Opening}
use Rattle.cli_files.specs.Inputs.{ReadFailure}
use Rattle.cli_fmt.specs.Runs.{HoldsDocument, RunFailure, WritesFormatted}

-- the work on a file that held these bytes, if they are known, and what output held before and after it
abbrev pub WorksOnRead : {A : Type 0} → Work → Option (List ℕ) → Option (List ℕ) → Option (List ℕ) → Result A Failure → Type 0
WorksOnRead work.Check held old new (Ok x) = IfSome held HoldsDocument × Keeps old new
WorksOnRead work.Check held old new (Err s) = ReadFailure held s × Keeps old new
WorksOnRead work.Print held old new (Ok x) = IfSome held (WritesFormatted old new)
WorksOnRead work.Print held old new (Err s) = RunFailure held old new s

-- the file was opened, and the work was done on what it held; or it could not be opened
pub data WorksOn {A : Type 0} (opens : Opening) (w : Work) (old new : Option (List ℕ)) (result : Result A Failure) : Type 0 where
  opened : (held : Option (List ℕ)) → opens (Some held) → WorksOnRead w held old new result → WorksOn opens w old new result
  unopened : opens None → IsErrAnd result (λ s. s ≡ failure.Read) → Keeps old new → WorksOn opens w old new result

-- what output and errors held before and after the files, and the greatest status that was met
pub data GoesThrough (opens : List ℕ → Opening) (w : Work) (output errors : Option (List ℕ)) : List (String Global) → Option (List ℕ) → Option (List ℕ) → ℕ → Type 0 where
  none : GoesThrough opens w output errors [] output errors 0
  good : {names : List (String Global)} {before after said : Option (List ℕ)} {status : ℕ} (name : String Global) → GoesThrough opens w output errors names before said status
      → WorksOn {A = Unit {0}} (opens (string_bytes name)) w before after (Ok tt) → GoesThrough opens w output errors (names ++ name ∷ []) after said status
  bad : {names : List (String Global)} {before after said more : Option (List ℕ)} {status : ℕ} (name : String Global) (s : Failure) → GoesThrough opens w output errors names before said status
      → WorksOn {A = Unit {0}} (opens (string_bytes name)) w before after (Err s) → s ≢ failure.Write → AppendsFront said more (report_line (string_bytes name) s)
      → GoesThrough opens w output errors (names ++ name ∷ []) after more (max status (status_of s))

-- it goes through all files, or to a failed write
pub data WorksThrough (opens : List ℕ → Opening) (w : Work) (output errors : Option (List ℕ)) : List (String Global) → Option (List ℕ) → Option (List ℕ) → ℕ → Type 0 where
  through : {names : List (String Global)} {after said : Option (List ℕ)} {status : ℕ} → GoesThrough opens w output errors names after said status
      → WorksThrough opens w output errors names after said status
  stopped : {all names : List (String Global)} {before after said more : Option (List ℕ)} {status : ℕ} (name : String Global) (rest : List (String Global))
      → all ≡ names ++ name ∷ rest → GoesThrough opens w output errors names before said status → WorksOn {A = Unit {0}} (opens (string_bytes name)) w before after (Err failure.Write)
      → AppendsFront said more (report_line (string_bytes name) failure.Write) → WorksThrough opens w output errors all after more 2
