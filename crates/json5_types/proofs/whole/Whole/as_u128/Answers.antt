use Rattle.std.proofs.Common.{rules}
use Rattle.json5_types.proofs.whole.Whole.as_u128.Goals as goal

pub returns-else-self : goal.returns-else-self
returns-else-self c = search rules
