use Rattle.std.proofs.Common.{◌∙◌, ap, sym}
use Rattle.json5_settings_types.specs.Sums.{comes_to, measures_of}
use Rattle.json5_settings_types.proofs.SumsRead.{next_unit}
use Rattle.json5_settings_types.proofs.sums.sum_of_parts.Goals as goal

pub returns-in_err-sum : goal.returns-in_err-sum
returns-in_err-sum c =
    let rest = next_unit c.args.units.now c.loop-unit.unit-index c.unit-item.result c.loop-unit-test.true c.unit-item.is in
    c.from_residual.ensures ∙ c.in_err-sum.ensures _ ∙ sym (ap (λ us. comes_to (measures_of us) c.loop-unit.sum.total c.loop-unit.sum.rest.now) rest) ∙ c.loop-unit.invariant
