use Rattle.std.proofs.Common.{rules}
use Rattle.json5_types.proofs.whole.Whole.as_i128.Goals as goal

pub returns-else-magnitude : goal.returns-else-magnitude
returns-else-magnitude c = search rules
