use Rattle.std.proofs.Common.{◌∙◌, ◌%◌, ◌<◌, [], arith}
use Rattle.json5_settings_types.proofs.Amounts.{one_part, text_done, text_found, text_passed}
use Rattle.json5_settings_types.proofs.sums.in_one_unit.Goals as goal

pub returns-then-number-unit-eq0 : goal.returns-then-number-unit-eq0
returns-then-number-unit-eq0 c =
    one_part _ _ _ c.args.number (rw c.new-text.ensures at c.push_part.ensures.written [])
    ∙ text_found c.args.units.now c.loop-unit.unit-index c.unit-item.result c.loop-unit-test.true c.unit-item.is c.args.number c.if-number-unit-eq0.true ∙ c.loop-unit.invariant

pub loop-unit-preserved : goal.loop-unit-preserved
loop-unit-preserved c =
    let some : 0 < c.args.number % c.unit-item.result.size = omega arith in
    text_passed c.args.units.now c.loop-unit.unit-index c.unit-item.result c.loop-unit-test.true c.unit-item.is c.args.number some ∙ c.loop-unit.invariant

pub returns : goal.returns
returns c = c.new.ensures ∙ text_done c.args.units.now c.loop-unit.unit-index c.args.number c.loop-unit-test.false ∙ c.loop-unit.invariant
