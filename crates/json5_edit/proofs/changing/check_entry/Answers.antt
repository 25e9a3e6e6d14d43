use Rattle.std.proofs.Common.{◌-◌}
use Rattle.json5_edit.proofs.changing.check_entry.Goals as goal

pub returns-in-Err-clause-refused : goal.returns-in-Err-clause-refused
returns-in-Err-clause-refused c = c.of_value.ensures (c.args.room - 1) c.args.value.now c.in-Err.ensures.refused
