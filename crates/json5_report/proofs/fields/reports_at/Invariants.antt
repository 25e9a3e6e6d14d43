use Rattle.std.specs.Prelude.{All}
use Rattle.json5_report.specs.Reports.{IsReportThere}
use Rattle.json5_report.proofs.fields.reports_at.Given as goal

abbrev pub invariant-loop-message : goal.invariant-loop-message
invariant-loop-message l = All (IsReportThere l.name l.text l.position) l.reports.items
