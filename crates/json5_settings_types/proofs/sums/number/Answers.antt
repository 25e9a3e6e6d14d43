use Rattle.json5_settings_types.proofs.SumsRead.{some_of_parsed, utf8_of_digits}
use Rattle.json5_settings_types.proofs.sums.number.Goals as goal

pub returns-in-Err : goal.returns-in-Err
returns-in-Err c = absurd (c.in-Err.ensures.cases.0 (utf8_of_digits c.args.digits.now c.requires))

pub returns-in-Ok : goal.returns-in-Ok
returns-in-Ok c = rw c.ok.ensures.value (some_of_parsed c.args.digits.now c.parse.result (rw c.in-Ok.ensures.cases.0 at c.parse.ensures.value.0) c.requires)
