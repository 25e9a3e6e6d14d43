use Rattle.cli_files.specs.Says.{says, stops}
use Rattle.cli_files.proofs.texts.answer_with.Goals as goal

pub returns-in-Ok : goal.returns-in-Ok
returns-in-Ok g c = says c.in-Ok.ensures.written

pub returns-in-Err : goal.returns-in-Err
returns-in-Err g c = rw (c.report.ensures.status, c.in-Err.ensures.stopped.0) (stops c.in-Err.ensures.stopped.1 (rw c.in-Err.ensures.stopped.0 at c.report.ensures.line))
