use Rattle.json5_numbers.proofs.DecimalOrders.{held_normal}
use Rattle.json5_numbers.proofs.order.size_order.Goals as goal

pub digits_order-requires-clause-first : goal.digits_order-requires-clause-first
digits_order-requires-clause-first c = held_normal c.args.number.now c.digits.result.now c.exponent.result c.digits.ensures.normal c.digits.ensures.value c.exponent.ensures.value

pub digits_order-requires-clause-second : goal.digits_order-requires-clause-second
digits_order-requires-clause-second c = held_normal c.args.other.now c.digits-2.result.now c.exponent-2.result c.digits-2.ensures.normal c.digits-2.ensures.value c.exponent-2.ensures.value
