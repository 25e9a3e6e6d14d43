use Rattle.std.proofs.Common.{arith, refl, ap, ◌∙◌}
use Rattle.std.proofs.lemmas.Int.{ints, to_z-of_z}
use mir.Syntax.{w128}
use Rattle.json5_tokens.proofs.DecimalLiteralValues.{after_or, after_each, found_is, means_decimal}
use Rattle.json5_tokens.proofs.numbers.slices.finite_decimal.Goals as goal

pub new-requires-clause-after_digits : goal.new-requires-clause-after_digits
new-requires-clause-after_digits c = rw c.unwrap_or-after.ensures (after_each c.args.literal.now.after _ refl c.requires.digits.after)

pub returns : goal.returns
returns c =
    let r = c.lowered_exponent-exponent.result in
    let v = c.lowered_exponent-exponent.ensures in
    let s = to_z-of_z w128 r (let a = v.small.low in let b = v.small.high in omega (arith, ints)) in
    let f = found_is c.args.literal.now c.unwrap_or-after.result.now r _ (ap (λ x. x.now) c.unwrap_or-after.ensures ∙ after_or c.args.literal.now.after _ refl) v.value s (omega arith) (omega arith) in
    means_decimal c.args.negative c.args.literal.now c.unwrap_or-after.result.now _ c.new.result f c.requires.other c.new.ensures
