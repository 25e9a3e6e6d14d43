use Rattle.std.proofs.Common.{rules}
use Rattle.cli_fmt.proofs.FilesWorked.{checked_file, printed_file}
use Rattle.cli_fmt.proofs.files.work_on.Goals as goal

pub returns-in-Check : goal.returns-in-Check
returns-in-Check g c = rw c.in-Check.is (checked_file _ _ _ _ c.in-Ok.ensures (search rules) c.check.ensures.read c.check.ensures.stopped)

pub returns : goal.returns
returns g c = rw c.in-Print.is (printed_file _ _ _ _ _ c.in-Ok.ensures c.run.ensures.written c.run.ensures.stopped)
