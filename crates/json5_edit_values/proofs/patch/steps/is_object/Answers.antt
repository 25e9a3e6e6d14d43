use Rattle.json5_types.specs.ValueMeanings.{value_of}
use Rattle.json5_edit_values.proofs.MergesMade.{object_found}
use Rattle.json5_edit_values.proofs.PatchesMade.{part_reached}
use Rattle.json5_edit_values.proofs.patch.steps.is_object.Goals as goal

pub returns-in-Ok : goal.returns-in-Ok
returns-in-Ok c = object_found _ c.args.text.now c.in_ok-part.part.now c.args.steps.now (part_reached c.args.text.now c.in_ok-part.part.now c.args.steps.now c.utf8.text c.in_ok-part.ensures) (value_of c.in-Ok.value) c.in-Ok.ensures.sound c.as_object.result c.as_object.ensures c.is_some.result c.is_some.ensures
