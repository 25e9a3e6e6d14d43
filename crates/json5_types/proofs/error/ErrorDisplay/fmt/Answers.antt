use Rattle.std.proofs.Common.{rules}
use Rattle.json5_types.proofs.error.ErrorDisplay.fmt.Goals as goal

pub returns-in-Some-clause-writes : goal.returns-in-Some-clause-writes
returns-in-Some-clause-writes g c = search rules
