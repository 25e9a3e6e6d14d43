use Rattle.std.proofs.Common.{ap, sym, ◌∙◌, Some}
use Rattle.json5_numbers.proofs.DecimalOrders.{ordered, signed_same}
use Rattle.json5_numbers.proofs.order.order.Goals as goal

pub returns : goal.returns
returns c =
    ordered c.args.number.now c.args.other.now c.requires.first c.requires.second c.is_negative.ensures.normal c.is_negative-2.ensures.normal
    ∙ ap Some (sym (c.signed_order.ensures ∙ signed_same c.is_negative.ensures.value c.is_negative-2.ensures.value c.are_zero-zeros.ensures c.size_order-sizes.ensures))
