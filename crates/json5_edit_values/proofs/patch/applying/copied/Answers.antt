use Rattle.std.proofs.Common.{refl, subst, sym, string_bytes}
use Rattle.json5_edit.proofs.Placed.{ok_then}
use Rattle.json5_edit_values.specs.Locations.{AreSteps}
use Rattle.json5_edit_values.proofs.PatchesMade.{copied_to, part_reached}
use Rattle.json5_edit_values.proofs.patch.applying.copied.Goals as goal

pub returns : goal.returns
returns c =
    let are = subst (AreSteps c.args.from.now) (sym c.as_slice.ensures.value) c.in_ok-steps.ensures.steps in
    ok_then c.added.result (λ made k. copied_to c.args.text.now c.in_ok-part.part.now c.args.from.now c.as_slice.result.now are (part_reached c.args.text.now c.in_ok-part.part.now c.as_slice.result.now c.utf8.text c.in_ok-part.ensures) c.in_ok-part.part refl c.args.path.now (string_bytes made) k) c.added.ensures
