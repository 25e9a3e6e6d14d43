use Rattle.json5_types.specs.ValueMeanings.{value_of}
use Rattle.json5_edit_values.proofs.PatchesMade.{count_found, none_found, part_reached}
use Rattle.json5_edit_values.proofs.patch.adding.count_at.Goals as goal

pub returns-in-Ok-clause-count : goal.returns-in-Ok-clause-count
returns-in-Ok-clause-count c =
    let (t, d, is) = c.in-Ok.ensures.sound in
    count_found c.args.text.now c.in_ok-part.part.now c.args.steps.now (part_reached c.args.text.now c.in_ok-part.part.now c.args.steps.now c.utf8.text c.in_ok-part.ensures) t d (value_of c.in-Ok.value) is c.len.result c.len.ensures

pub returns-in-Ok-clause-none : goal.returns-in-Ok-clause-none
returns-in-Ok-clause-none c =
    let (t, d, is) = c.in-Ok.ensures.sound in
    none_found c.args.text.now c.in_ok-part.part.now c.args.steps.now (part_reached c.args.text.now c.in_ok-part.part.now c.args.steps.now c.utf8.text c.in_ok-part.ensures) t d (value_of c.in-Ok.value) is c.len.result c.len.ensures
