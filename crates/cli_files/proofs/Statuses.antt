-- The statuses that a program ends with are at most 2.
use Rattle.std.proofs.Common.{ℕ, ◌≤◌, List, Option, arith}
use Rattle.cli_files.specs.declared.failure.Failure.{Failure}
use Rattle.cli_files.specs.declared.failure.Failure.TheVariants as failure
use Rattle.cli_files.specs.Reports.{status_of}
use Rattle.cli_files.specs.Says.{SaysText, says, stops}

pub failure_low : (s : Failure) → status_of s ≤ 2
failure_low failure.NotUtf8 = omega arith
failure_low (failure.Text e) = omega arith
failure_low failure.NoMemory = omega arith
failure_low failure.Read = omega arith
failure_low failure.Write = omega arith

pub text_low : {text : List ℕ} {output written errors said : Option (List ℕ)} {n : ℕ} → SaysText text output written errors said n → n ≤ 2
text_low (says a) = omega arith
text_low (stops a b) = omega arith
