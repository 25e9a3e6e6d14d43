use Rattle.std.proofs.Common.{ℕ, List, ◌∙◌, subst}
use Rattle.json5_report.specs.Reports.{IsReportOf}
use Rattle.cli_files.specs.ShownNames.{shown_name}
use Rattle.cli_tidy.proofs.RefusalsRead.{printed_report}
use Rattle.cli_tidy.proofs.refusals.text_shown.Goals as goal

pub returns : goal.returns
returns c =
    printed_report (IsReportOf (shown_name c.args.name.now) c.args.text.now c.args.error.now) c.in_ok-report.report c.printed.result
    (subst (λ (name : List ℕ). IsReportOf name c.args.text.now c.args.error.now c.in_ok-report.report) (c.as_str.ensures.value ∙ c.in_ok-name.ensures) c.in_ok-report.ensures) c.printed.ensures
