use Rattle.std.proofs.Common.{arith}
use Rattle.json5_schema.proofs.Parts.{items_from, nothing_after}
use Rattle.json5_schema.proofs.asked.items_after.Goals as goal

pub returns-then-count-items : goal.returns-then-count-items
returns-then-count-items c = items_from c.args.items.now c.args.count

pub returns-else-count-items : goal.returns-else-count-items
returns-else-count-items c = nothing_after c.args.items.now c.args.count (omega (arith, c.if-count-items.false))
