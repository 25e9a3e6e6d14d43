use Rattle.std.proofs.Common.{subst, sym}
use Rattle.json5_edit_values.specs.Locations.{AreSteps}
use Rattle.json5_edit_values.proofs.PatchesMade.{compares_there, part_reached}
use Rattle.json5_edit_values.proofs.patch.applying.is_there.Goals as goal

pub returns-in-Ok : goal.returns-in-Ok
returns-in-Ok c =
    let are = subst (AreSteps c.args.tokens.now) (sym c.as_slice.ensures.value) c.in_ok-steps.ensures.steps in
    compares_there c.args.text.now c.in_ok-part.part.now c.args.tokens.now c.as_slice.result.now are (part_reached c.args.text.now c.in_ok-part.part.now c.as_slice.result.now c.utf8.text c.in_ok-part.ensures) c.args.value.now c.in-Ok.there c.in-Ok.ensures.sound c.is_equal.result c.is_equal.ensures
