use Rattle.std.proofs.Common.{[]}
use Rattle.json5_edit.proofs.ArraysLed.{none_led, span_led}
use Rattle.json5_edit.proofs.path_texts.parsed.is_array.Goals as goal

pub returns-in-Ok-Some : goal.returns-in-Ok-Some
returns-in-Ok-Some c = record { said = span_led c.args.text.now c.args.steps.now c.in-Ok-Some.span c.begins_array.result (rw c.in-Ok-Some.field-0-is at c.in-Ok-Some.ensures.found) c.begins_array.ensures; refused = tt }

pub returns-in-Ok-None : goal.returns-in-Ok-None
returns-in-Ok-None c = record { said = none_led c.args.text.now c.args.steps.now (rw c.in-Ok-None.field-0-is at c.in-Ok-None.ensures.found); refused = tt }

pub returns-in-Err : goal.returns-in-Err
returns-in-Err c = record { said = tt; refused = c.of_text.ensures c.args.text.now [] c.in-Err.ensures.refused }
