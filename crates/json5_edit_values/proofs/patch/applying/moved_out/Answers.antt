use Rattle.std.proofs.Common.{◌∙◌, refl, subst, sym, string_bytes}
use Rattle.json5_edit.proofs.Placed.{ok_then}
use Rattle.json5_edit.specs.Changes.{IsRemoved}
use Rattle.json5_edit_values.specs.Locations.{AreSteps}
use Rattle.json5_edit_values.proofs.PatchesMade.{taken_to, part_reached}
use Rattle.json5_edit_values.proofs.patch.applying.moved_out.Goals as goal

pub returns : goal.returns
returns c =
    let are = subst (AreSteps c.args.from.now) (sym c.as_slice.ensures.value) c.in_ok-steps.ensures.steps in
    let same = c.as_slice-2.ensures.value ∙ sym c.as_slice.ensures.value in
    let left = subst (λ z. IsRemoved c.args.text.now z (string_bytes c.in_ok-without.without)) same c.in_ok-without.ensures.made in
    let gone = subst (IsRemoved c.args.text.now c.as_slice.result.now) (sym c.as_str.ensures.value) left in
    ok_then c.added.result (λ made k. taken_to c.args.text.now c.in_ok-part.part.now c.args.from.now c.as_slice.result.now are (part_reached c.args.text.now c.in_ok-part.part.now c.as_slice.result.now c.utf8.text c.in_ok-part.ensures) c.in_ok-part.part refl c.args.path.now c.as_str.result.now (string_bytes made) gone k) c.added.ensures
