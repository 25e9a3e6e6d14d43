-- What is shown of what was read and refused.
use Rattle.std.proofs.Common.{◌≡◌, ◌∙◌, ℕ, List, Option, Some, None, subst}
use Rattle.std.specs.declared.alloc.Global.{Global}
use Rattle.std.specs.Prelude.{IfErr, IfOk, IfSome, MatchResult, Ok, Err, Result, String, string_bytes}
use Rattle.json5_types.specs.declared.error.Error.{Error}
use Rattle.json5_types.specs.Errors.{LacksMemory}
use Rattle.json5_report.specs.declared.report.Report.{Report}
use Rattle.json5_report.specs.Reports.{report_text}
use Rattle.cli_files.specs.declared.failure.Failure.{Failure}
use Rattle.cli_files.specs.declared.failure.Failure.TheVariants as failure
use Rattle.json5_tidy.specs.declared.style.LastCommas.{LastCommas}
use Rattle.json5_tidy.specs.declared.style.Stars.{Stars}
use Rattle.cli_tidy.specs.declared.tidied.Tidied.{Tidied}
use Rattle.cli_tidy.specs.declared.trouble.FileTrouble.{FileTrouble}
use Rattle.cli_tidy.specs.declared.trouble.FileTrouble.TheVariants as trouble
use Rattle.cli_tidy.specs.Refusals.{IsCauseOf, IsFaultOf, IsTroubleOf, ShowsReport}
use Rattle.cli_tidy.specs.Tidies.{HoldsText, HoldsTidied}

-- what such a report prints shows it
pub printed_report : (Those : Report → Type 0) (report : Report) (r : Result (String Global) Error) → Those report → MatchResult r (λ s. string_bytes s ≡ report_text report) LacksMemory
    → MatchResult r (λ s. ShowsReport Those (string_bytes s)) LacksMemory
printed_report Those report (Ok s) those e = (report, those, e)
printed_report Those report (Err memory) those k = k

-- of an unknown text no more is said of the cause
unknown_cause : (text : List ℕ) (s : Failure) → IsCauseOf (Some text) s → IsCauseOf None s
unknown_cause text failure.NotUtf8 k = tt
unknown_cause text (failure.Text e) k = (k.0, tt)
unknown_cause text failure.NoMemory k = k
unknown_cause text failure.Read k = k
unknown_cause text failure.Write k = k

unknown_trouble : (name text : List ℕ) (e : FileTrouble) → IsTroubleOf name (Some text) e → IsTroubleOf name None e
unknown_trouble name text (trouble.Failed s) k = k
unknown_trouble name text (trouble.Refused shown) k = tt
unknown_trouble name text (trouble.Unreported s memory) k = (unknown_cause text s k.0, k.1)
unknown_trouble name text (trouble.Unopened why) k = k
unknown_trouble name text (trouble.Unwritten u) k = k
unknown_trouble name text trouble.NoFile k = k

-- what is wrong with bytes is wrong with a reader that held them
at_trouble : (name text : List ℕ) (e : FileTrouble) → IsFaultOf name text e → IsTroubleOf name (Some text) e
at_trouble name text (trouble.Failed failure.NoMemory) k = tt
at_trouble name text (trouble.Failed failure.NotUtf8) k = k
at_trouble name text (trouble.Failed (failure.Text e)) k = k
at_trouble name text (trouble.Failed failure.Read) k = tt
at_trouble name text (trouble.Failed failure.Write) k = k
at_trouble name text (trouble.Refused shown) k = k
at_trouble name text (trouble.Unreported s memory) k = k
at_trouble name text (trouble.Unopened why) k = k
at_trouble name text (trouble.Unwritten u) k = k
at_trouble name text trouble.NoFile k = k

trouble_read : (name : List ℕ) (input : Option (List ℕ)) (text : List ℕ) (e : FileTrouble) → IfSome input (λ bytes. text ≡ bytes) → IsTroubleOf name (Some text) e → IsTroubleOf name input e
trouble_read name None text e is k = unknown_trouble name text e k
trouble_read name (Some bytes) text e is k = subst (λ b. IsTroubleOf name (Some b) e) is k

held : (input : Option (List ℕ)) (bytes : List ℕ) (text : String Global) → IfSome input (λ known. bytes ≡ known) → string_bytes text ≡ bytes → HoldsText input text
held None bytes text all same = tt
held (Some known) bytes text all same = same ∙ all

module _ (stars : Stars) (asked : LastCommas) (name : List ℕ) (input : Option (List ℕ)) (bytes : List ℕ) (all : IfSome input (λ known. bytes ≡ known)) where
  pub tidied_read : (r : Result Tidied FileTrouble) → IfOk r (HoldsTidied stars asked name (Some bytes)) → IfOk r (HoldsTidied stars asked name input)
  tidied_read (Ok t) k = record { all = held input bytes t.before all k.all; tidies = k.tidies }
  tidied_read (Err e) k = tt

  pub fault_read : (r : Result Tidied FileTrouble) → IfErr r (IsFaultOf name bytes) → IfErr r (IsTroubleOf name input)
  fault_read (Ok t) k = tt
  fault_read (Err e) k = trouble_read name input bytes e all (at_trouble name bytes e k)
