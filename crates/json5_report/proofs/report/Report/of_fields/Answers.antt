use Rattle.std.proofs.Common.{sym}
use Rattle.json5_report.proofs.ReportsPut.{are_some, are_more}
use Rattle.json5_report.proofs.report.Report.of_fields.Goals as goal

pub returns-then-not-is_empty : goal.returns-then-not-is_empty
returns-then-not-is_empty c =
    are_some c.args.name.now c.args.text.now c.args.error.now c.position_of.result c.position_of.ensures c.in_ok-reports.reports.len c.in_ok-reports.reports.items (sym c.in_ok-reports.reports.ok.0) (sym c.if-not-is_empty.ensures) c.in_ok-reports.ensures

pub returns : goal.returns
returns c =
    are_more c.args.name.now c.args.text.now c.args.error.now c.position_of.result c.position_of.ensures c.in_ok-reports.reports.items c.push.new.self.items c.in_ok-report.report c.in_ok-push.ensures.items c.in_ok-reports.ensures c.in_ok-report.ensures
