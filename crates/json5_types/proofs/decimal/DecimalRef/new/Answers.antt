use Rattle.std.proofs.Common.{◌∙◌, ◌++◌, ap, refl}
use Rattle.std.proofs.lemmas.Int.{to_z-of_z}
use mir.Syntax.{w128}
use Rattle.json5_grammar.proofs.CharacterTests.{Each-append}
use Rattle.json5_types.proofs.NumberZeros.{back, fewer_digits, normal_exponent_is, normal_parts, normal_value}
use Rattle.json5_types.proofs.decimal.DecimalRef.new.Goals as goal

pub bare_exponent-requires-clause-fewer : goal.bare_exponent-requires-clause-fewer
bare_exponent-requires-clause-fewer c =
    fewer_digits (c.args.before.now ++ c.args.after.now) c.without_front_zeros.result.0.now c.without_front_zeros.result.1.now c.without_back_zeros.result.0.now c.without_back_zeros.result.1.now
    c.without_front_zeros.ensures (c.without_back_zeros.ensures ∙ ap back c.without_front_zeros.ensures)

pub invariant_of-result : goal.invariant_of-result
invariant_of-result c =
    let s = to_z-of_z w128 c.args.exponent c.ranges.exponent in
    normal_parts (c.args.before.now ++ c.args.after.now) c.without_front_zeros.result.0.now c.without_front_zeros.result.1.now c.without_back_zeros.result.0.now c.without_back_zeros.result.1.now c.args.exponent _
    (Each-append c.requires.before_digits c.requires.after_digits) c.without_front_zeros.ensures (c.without_back_zeros.ensures ∙ ap back c.without_front_zeros.ensures) (rw s at c.in_ok-exponent.ensures.value) (rw s at (c.in_ok-exponent.ensures.in_range.0 refl))

pub returns : goal.returns
returns c = record {
  in_range =
      let s = to_z-of_z w128 c.args.exponent c.ranges.exponent in
      rw (normal_exponent_is (c.args.before.now ++ c.args.after.now) c.without_front_zeros.result.0.now c.without_front_zeros.result.1.now c.without_back_zeros.result.0.now c.without_back_zeros.result.1.now c.args.exponent
      c.without_front_zeros.ensures (c.without_back_zeros.ensures ∙ ap back c.without_front_zeros.ensures))
      (rw s at c.in_ok-exponent.ensures.in_range);
  value =
      let s = to_z-of_z w128 c.args.exponent c.ranges.exponent in
      normal_value c.args.negative (c.args.before.now ++ c.args.after.now) c.without_front_zeros.result.0.now c.without_front_zeros.result.1.now c.without_back_zeros.result.0.now c.without_back_zeros.result.1.now c.args.exponent _
      c.without_front_zeros.ensures (c.without_back_zeros.ensures ∙ ap back c.without_front_zeros.ensures) (rw s at c.in_ok-exponent.ensures.value) (rw s at (c.in_ok-exponent.ensures.in_range.0 refl));
}
