use Rattle.std.proofs.Common.{rules}
use Rattle.json5_types.proofs.whole.Whole.from_i128.Goals as goal

pub returns : goal.returns
returns c = search rules
