use Rattle.std.proofs.Common.{subst, sym, string_bytes}
use Rattle.json5_edit.proofs.Placed.{ok_then}
use Rattle.json5_edit_values.specs.Locations.{AreSteps}
use Rattle.json5_edit_values.proofs.PatchesMade.{removed_by}
use Rattle.json5_edit_values.proofs.patch.applying.removed.Goals as goal

pub returns : goal.returns
returns c =
    let are = subst (AreSteps c.args.tokens.now) (sym c.as_slice.ensures.value) c.in_ok-steps.ensures.steps in
    ok_then c.remove.result (λ made k. removed_by c.args.text.now (string_bytes made) c.args.tokens.now c.as_slice.result.now are k) c.remove.ensures.made
