use Rattle.std.proofs.Common.{◌++◌, ◌∙◌, ap}
use Rattle.json5_schema.specs.CanonicalForms.{members_form, read}
use Rattle.json5_schema.proofs.FormSteps.{next_entry, last_entry}
use Rattle.json5_schema.proofs.canonical.push_members.Goals as goal

pub loop-name-init : goal.loop-name-init
loop-name-init c = ap (λ es. c.args.form.now.items ++ members_form (read es)) c.into_iter-name-iterator.ensures.into_iter_gives.0

pub loop-name-preserved : goal.loop-name-preserved
loop-name-preserved c =
    next_entry _ _ _ _ _ _ (c.in-Some.name.now, c.in-Some.value.now) c.in-Some.ensures.steps c.in_ok-push_text.ensures
    (c.in_ok-extend_from_slice.ensures.items ∙ ap (λ bs. c.push_text.new.form.items ++ bs) c.deref.ensures.value) c.loop-name.invariant

pub returns : goal.returns
returns c = last_entry _ _ _ c.in-None.ensures.steps.0 c.loop-name.invariant
