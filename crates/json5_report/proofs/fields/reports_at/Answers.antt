use Rattle.json5_report.specs.Reports.{IsReportThere}
use Rattle.json5_report.proofs.ReportsPut.{none_yet, one_more, placed_there}
use Rattle.json5_report.proofs.fields.reports_at.Goals as goal

pub loop-message-init : goal.loop-message-init
loop-message-init c = none_yet (IsReportThere c.args.name.now c.args.text.now c.args.position) _ c.new-reports.ensures.items

pub loop-message-preserved-in_ok-push : goal.loop-message-preserved-in_ok-push
loop-message-preserved-in_ok-push c =
    one_more (IsReportThere c.args.name.now c.args.text.now c.args.position) _ _ c.in_ok-report.report c.in_ok-push.ensures.items c.loop-message.invariant
    (placed_there c.args.name.now c.args.text.now c.args.position c.at-error.result c.in_ok-report.report c.at-error.ensures.place c.in_ok-report.ensures)
