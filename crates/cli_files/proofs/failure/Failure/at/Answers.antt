use Rattle.std.proofs.Common.{rules}
use Rattle.cli_files.proofs.failure.Failure.at.Goals as goal

pub returns-in-Some-OutOfMemory : goal.returns-in-Some-OutOfMemory
returns-in-Some-OutOfMemory c = search rules
