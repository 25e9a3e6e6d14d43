use Rattle.std.proofs.Common.{◌≡◌, true, ◌||◌, length, sym, ap, ◌∙◌}
use Rattle.std.specs.Prelude.{◌==◌, ℤ, pos, ◌+ℤ◌}
use Rattle.std.proofs.lemmas.Int.{to_z-of_z}
use mir.Syntax.{w16}
use Rattle.json5_numbers.proofs.DigitOrders.{by_none, by_both, full, left_true, right_true, same_bools, same_orders, same_ints}
use Rattle.json5_numbers.proofs.order.digits_order.Goals.{then-is_empty-via-then-is_empty, then-is_empty-via-else-is_empty+then-is_empty-2}
use Rattle.json5_numbers.proofs.order.digits_order.Goals as goal

pub returns-then-is_empty : goal.returns-then-is_empty
returns-then-is_empty c =
    let some : ((length c.args.digits.now == 0) || (length c.args.others.now == 0)) ≡ true = elim c.then-is_empty.branch [
      | then-is_empty-via-then-is_empty w ↦ left_true _ _ (sym c.is_empty.ensures ∙ w.if-is_empty.true)
      | then-is_empty-via-else-is_empty+then-is_empty-2 w ↦ right_true _ _ (sym w.is_empty-else-is_empty.ensures ∙ w.if-is_empty-2.true)
    ] in
    c.cmp.ensures ∙ same_bools c.is_empty-then-is_empty.ensures c.is_empty-then-is_empty-2.ensures ∙ by_none c.args.digits.now c.args.exponent c.args.others.now c.args.power c.requires.first c.requires.second some

pub returns : goal.returns
returns c =
    c.then.ensures
    ∙ same_orders (c.places_order-order.ensures ∙ same_ints (ap (λ (z : ℤ). pos (length c.args.digits.now) +ℤ z) (to_z-of_z w16 c.args.exponent c.ranges.exponent)) (ap (λ (z : ℤ). pos (length c.args.others.now) +ℤ z) (to_z-of_z w16 c.args.power c.ranges.power))) c.cmp-2.ensures
    ∙ by_both c.args.digits.now c.args.exponent c.args.others.now c.args.power c.requires.first c.requires.second (full c.args.digits.now (sym c.is_empty.ensures ∙ c.if-is_empty.false)) (full c.args.others.now (sym c.is_empty-else-is_empty.ensures ∙ c.if-is_empty-2.false))
