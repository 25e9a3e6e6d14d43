use Rattle.std.proofs.Common.{ℕ, List, Some, ◌∙◌, subst}
use Rattle.json5_report.specs.Reports.{IsReportOfBytes}
use Rattle.cli_tidy.proofs.refusals.bytes_shown.Goals as goal

pub returns-in-Some : goal.returns-in-Some
returns-in-Some c = (
  c.in-Some.report,
  subst (λ (name : List ℕ). IsReportOfBytes name c.args.bytes.now (Some c.in-Some.report)) (c.as_str.ensures.value ∙ c.in_ok-name.ensures)
      (subst (IsReportOfBytes c.as_str.result.now c.args.bytes.now) c.in-Some.is c.in_ok-report.ensures),
  c.in_ok-text-in-Some.ensures,
)
