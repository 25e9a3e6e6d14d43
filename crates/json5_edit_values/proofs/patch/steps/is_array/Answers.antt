use Rattle.std.proofs.Common.{[]}
use Rattle.json5_edit_values.proofs.patch.steps.is_array.Goals as goal

pub returns-in-Err : goal.returns-in-Err
returns-in-Err c = c.of_text.ensures c.args.text.now [] c.in-Err.ensures.refused
