use Rattle.json5_edit_values.proofs.PatchesMade.{brings_text, brings_value}
use Rattle.json5_edit_values.proofs.patch.new_values.new_text.Goals as goal

pub returns-in-Value : goal.returns-in-Value
returns-in-Value c = brings_value c.args.new c.in-Value.value c.in-Value.is c.args.text.now c.spelled.result c.spelled.ensures.value

pub returns-in-Text : goal.returns-in-Text
returns-in-Text c = brings_text c.args.new c.in-Text.part c.in-Text.is c.lined.result c.lined.ensures
