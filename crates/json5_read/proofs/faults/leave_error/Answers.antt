use Rattle.std.proofs.Common.{sym}
use Rattle.json5_read.proofs.faults.leave_error.Goals as goal

pub returns-in-Ok : goal.returns-in-Ok
returns-in-Ok g c = sym c.in-Ok.is

pub returns-in-Err : goal.returns-in-Err
returns-in-Err g c = sym c.in-Err.is
