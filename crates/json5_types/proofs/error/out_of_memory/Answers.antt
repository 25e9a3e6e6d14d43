use Rattle.std.proofs.Common.{rules}
use Rattle.json5_types.proofs.error.out_of_memory.Goals as goal

pub returns : goal.returns
returns c = search rules
