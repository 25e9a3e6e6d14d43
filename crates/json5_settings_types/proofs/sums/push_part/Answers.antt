use Rattle.json5_settings_types.specs.Sums.{measure_of}
use Rattle.json5_settings_types.proofs.SumsWritten.{has_part, smaller}
use Rattle.json5_settings_types.proofs.sums.push_part.Goals as goal

pub returns-then-number-unit-clause-written : goal.returns-then-number-unit-clause-written
returns-then-number-unit-clause-written c = λ us. smaller us (measure_of c.args.unit.now) c.args.number c.args.text.now.bytes c.if-number-unit.true

pub returns-clause-written : goal.returns-clause-written
returns-clause-written c = λ us. has_part us (measure_of c.args.unit.now) c.args.number c.args.text.now.bytes _ _ _ c.if-number-unit.false c.format.ensures.text c.push_str.ensures.bytes c.push_str-2.ensures.bytes
