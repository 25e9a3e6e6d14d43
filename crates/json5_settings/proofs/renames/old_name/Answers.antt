use Rattle.std.proofs.Common.{subst, sym}
use Rattle.std.specs.Prelude.{Some}
use Rattle.json5_types.specs.Errors.{IsCustomAt}
use Rattle.json5_edit.specs.PathTexts.{AreStepsOf}
use Rattle.json5_edit.specs.Places.{Leads}
use Rattle.json5_settings.specs.OldNames.{AreStepsIn}
use Rattle.json5_settings.proofs.Told.{begins_text, nowhere}
use Rattle.json5_settings.proofs.renames.old_name.Goals as goal

pub returns-in-None : goal.returns-in-None
returns-in-None c =
    let text = c.args.text.now in
    let steps = c.as_slice.result.now in
    let path : AreStepsIn text c.args.old.now steps = (c.in_ok-path.path, c.in_ok-path.ensures, subst (AreStepsOf text c.in_ok-path.path.written.items) (sym c.as_slice.ensures.value) c.in_ok-steps.ensures.steps) in
    (steps, path, nowhere text steps (subst (Leads text steps) c.in-None.is c.in_ok-find_place.ensures.found))

pub returns : goal.returns
returns c =
    let text = c.args.text.now in
    let steps = c.as_slice.result.now in
    let place = c.in-Some.place in
    let path : AreStepsIn text c.args.old.now steps = (c.in_ok-path.path, c.in_ok-path.ensures, subst (AreStepsOf text c.in_ok-path.path.written.items) (sym c.as_slice.ensures.value) c.in_ok-steps.ensures.steps) in
    let leads = subst (Leads text steps) c.in-Some.is c.in_ok-find_place.ensures.found in
    let at = c.position_of-position.ensures (begins_text text steps place c.utf8.text leads) in
    (steps, path, (place, leads, subst (λ p. IsCustomAt (Some p) c.in_ok-custom_at-in-Some.field-0) at c.in_ok-custom_at-in-Some.ensures))
