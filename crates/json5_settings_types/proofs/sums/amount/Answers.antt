use Rattle.std.proofs.Common.{◌∙◌, ◌+◌, ap, drop, sym}
use Rattle.json5_settings_types.specs.Sums.{amount_of, measures_of, or_else}
use Rattle.json5_settings_types.proofs.Amounts.{amount_done, amount_step}
use Rattle.json5_settings_types.proofs.sums.amount.Goals as goal

pub returns-in-Some : goal.returns-in-Some
returns-in-Some c =
    ap (λ o. or_else o (amount_of (measures_of (drop (c.loop-unit.unit-index + 1) c.args.units.now)) c.args.text.now)) c.in-Some.ensures
    ∙ sym (amount_step c.args.units.now c.loop-unit.unit-index c.unit-item.result c.loop-unit-test.true c.unit-item.is c.args.text.now) ∙ c.loop-unit.invariant

pub loop-unit-preserved : goal.loop-unit-preserved
loop-unit-preserved c =
    ap (λ o. or_else o (amount_of (measures_of (drop (c.loop-unit.unit-index + 1) c.args.units.now)) c.args.text.now)) c.in_default.ensures
    ∙ sym (amount_step c.args.units.now c.loop-unit.unit-index c.unit-item.result c.loop-unit-test.true c.unit-item.is c.args.text.now) ∙ c.loop-unit.invariant

pub returns : goal.returns
returns c = sym (amount_done c.args.units.now c.loop-unit.unit-index c.args.text.now c.loop-unit-test.false) ∙ c.loop-unit.invariant
