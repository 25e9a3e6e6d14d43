use Rattle.cli_fmt.specs.ProgramRuns.{formats, fails}
use Rattle.cli_fmt.proofs.program_runs.answer_stream.Goals as goal

pub returns-in-Ok : goal.returns-in-Ok
returns-in-Ok g c = formats c.in-Ok.ensures.written

pub returns-in-Err : goal.returns-in-Err
returns-in-Err g c = rw c.report.ensures.status (fails c.in-Err.failure c.in-Err.ensures.stopped c.in-Err.ensures.memory c.report.ensures.line)
