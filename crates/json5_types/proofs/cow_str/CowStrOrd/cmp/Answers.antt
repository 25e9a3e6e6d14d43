use Rattle.std.proofs.Common.{rules}
use Rattle.json5_types.proofs.cow_str.CowStrOrd.cmp.Goals as goal

pub returns : goal.returns
returns c = search rules
