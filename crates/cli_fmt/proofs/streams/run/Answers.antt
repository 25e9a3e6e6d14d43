use Rattle.cli_fmt.proofs.LinesWritten.{written, begun}
use Rattle.cli_fmt.proofs.streams.run.Goals as goal

pub returns-in-Ok-clause-written : goal.returns-in-Ok-clause-written
returns-in-Ok-clause-written g c = written _ _ _ c.in_ok-value.value c.in_ok-value.ensures c.in-Ok.ensures

pub returns-clause-stopped : goal.returns-clause-stopped
returns-clause-stopped g c = begun _ _ _ c.in_ok-value.value c.in_ok-value.ensures c.in-Err.ensures
