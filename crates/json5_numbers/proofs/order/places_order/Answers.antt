use Rattle.std.proofs.Common.{◌∙◌, ap, length, rules}
use Rattle.std.specs.Prelude.{ℤ, pos, ◌+ℤ◌}
use Rattle.std.proofs.lemmas.Int.{to_z-of_z}
use mir.Syntax.{w16, w128}
use mir.Val.{SFits}
use Rattle.json5_numbers.proofs.DigitOrders.{same_ints}
use Rattle.json5_numbers.proofs.order.places_order.Goals as goal

pub returns : goal.returns
returns c =
    let f : SFits w128 c.place.result = search rules in
    let g : SFits w128 c.place-2.result = search rules in
    c.cmp.ensures
    ∙ same_ints (to_z-of_z w128 c.place.result f ∙ c.place.ensures ∙ ap (λ (z : ℤ). pos (length c.args.digits.now) +ℤ z) (to_z-of_z w16 c.args.exponent c.ranges.exponent)) (to_z-of_z w128 c.place-2.result g ∙ c.place-2.ensures ∙ ap (λ (z : ℤ). pos (length c.args.others.now) +ℤ z) (to_z-of_z w16 c.args.power c.ranges.power))
