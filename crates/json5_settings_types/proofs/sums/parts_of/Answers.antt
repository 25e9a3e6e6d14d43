use Rattle.json5_settings_types.proofs.SumsWritten.{all_written}
use Rattle.json5_settings_types.proofs.sums.parts_of.Goals as goal

pub returns : goal.returns
returns c = all_written c.loop-unit.text.bytes _ c.args.units.now c.loop-unit.unit-index c.loop-unit.rest c.loop-unit-test.false c.loop-unit.invariant.written
