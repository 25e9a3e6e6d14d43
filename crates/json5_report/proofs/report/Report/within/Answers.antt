use Rattle.json5_report.proofs.ReportsPut.{made}
use Rattle.json5_report.specs.Courses.{open_in}
use Rattle.json5_report.proofs.report.Report.within.Goals as goal

pub returns : goal.returns
returns c =
    made c.args.name.now c.args.text.now c.args.error.now c.position_of-position.result c.offset_of-offset.result (open_in c.in_ok-course.course) c.report.result c.position_of-position.ensures c.offset_of-offset.ensures c.in_ok-course.ensures
    c.report.ensures
