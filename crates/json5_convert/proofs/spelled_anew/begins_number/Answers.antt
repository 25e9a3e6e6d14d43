use Rattle.json5_convert.proofs.AnewSteps.{number_begins}
use Rattle.json5_convert.proofs.spelled_anew.begins_number.Goals as goal

pub returns-in-Some : goal.returns-in-Some
returns-in-Some c = λ t. number_begins c.args.text.now c.in-Some.field-0-1.now c.in-Some.c c.begins_number_at.result c.in-Some.ensures c.begins_number_at.ensures t
