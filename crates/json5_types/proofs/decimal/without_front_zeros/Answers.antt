use Rattle.json5_types.proofs.NumberZeros.{front_none, front_some, is_none, is_some}
use Rattle.json5_types.proofs.decimal.without_front_zeros.Goals as goal

pub returns-then-is_empty : goal.returns-then-is_empty
returns-then-is_empty c = rw (c.without_front_zeros-first.ensures, c.without_front_zeros.ensures) (front_none c.args.before.now c.args.after.now (is_none _ c.is_empty.result (rw c.without_front_zeros-first.ensures at c.is_empty.ensures) c.if-is_empty.true))

pub returns-else-is_empty : goal.returns-else-is_empty
returns-else-is_empty c = rw c.without_front_zeros-first.ensures (front_some c.args.before.now c.args.after.now (is_some _ c.is_empty.result (rw c.without_front_zeros-first.ensures at c.is_empty.ensures) c.if-is_empty.false))
