-- The exit status is at most 2, and 2 where the words ask for nothing.
use Rattle.std.proofs.Common.{ℕ, ◌≡◌, ◌≤◌, max, List, Option, arith, refl}
use Rattle.std.specs.declared.alloc.Global.{Global}
use Rattle.std.specs.Prelude.{String}
use Rattle.cli_fmt.specs.declared.work.Work.{Work}
use Rattle.cli_fmt.specs.ProgramRuns.{AnswersStream, formats, fails, Answers, of_stream, of_files, says_usage}
use Rattle.cli_files.specs.Stores.{Opening}
use Rattle.cli_fmt.specs.CommandWords.{IsRequest}
use Rattle.cli_fmt.specs.Files.{GoesThrough, none, good, bad, WorksThrough, through, stopped}
use Rattle.cli_files.specs.Reports.{status_of}
use Rattle.cli_files.proofs.Statuses.{failure_low}

-- ---- it is at most 2

max_low : (a b : ℕ) → a ≤ 2 → b ≤ 2 → max a b ≤ 2
max_low a b p q = omega (arith, p, q)

pub goes_low : {opens : List ℕ → Opening} {w : Work} {output errors written said : Option (List ℕ)} {names : List (String Global)} {n : ℕ} → GoesThrough opens w output errors names written said n → n ≤ 2
goes_low none = omega arith
goes_low (good name g k) = goes_low g
goes_low (bad {status = status} name s g k other a) = max_low status (status_of s) (goes_low g) (failure_low s)

works_low : {opens : List ℕ → Opening} {w : Work} {output errors written said : Option (List ℕ)} {names : List (String Global)} {n : ℕ} → WorksThrough opens w output errors names written said n → n ≤ 2
works_low (through g) = goes_low g
works_low (stopped name rest split g is a) = omega arith

stream_low : {input output errors written said : Option (List ℕ)} {n : ℕ} → AnswersStream input output written errors said n → n ≤ 2
stream_low (formats k) = omega arith
stream_low (fails s k m a) = failure_low s

pub answers_low : {opens : List ℕ → Opening} {input output errors written said : Option (List ℕ)} {list : List (String Global)} {n : ℕ} → Answers opens input output errors list written said n → n ≤ 2
answers_low (of_stream k) = stream_low k
answers_low (of_files w word name names is k) = works_low k
answers_low (says_usage other a) = omega arith

-- ---- it is 2

pub answers_two : {opens : List ℕ → Opening} {input output errors written said : Option (List ℕ)} {list : List (String Global)} {n : ℕ} → Answers opens input output errors list written said n → ¬ (IsRequest list) → n ≡ 2
answers_two (of_stream k) unasked = absurd (unasked tt)
answers_two (of_files w word name names is k) unasked = absurd (unasked (w, is))
answers_two (says_usage other a) unasked = refl
