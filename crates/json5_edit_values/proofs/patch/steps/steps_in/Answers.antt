use Rattle.std.proofs.Common.{subst}
use Rattle.std.proofs.lemmas.List.{take_all}
use Rattle.json5_edit_values.specs.Locations.{AreSteps, IsStep}
use Rattle.json5_edit_values.proofs.PatchesMade.{steps_more}
use Rattle.json5_edit_values.proofs.patch.steps.steps_in.Goals as goal

pub loop-token-preserved : goal.loop-token-preserved
loop-token-preserved c =
    steps_more c.loop-token.token-index c.args.tokens.now _ c.token-item.result c.loop-token.steps.items c.push_step.new.steps.items c.in_ok-step.step c.loop-token-test.true c.loop-token.invariant c.token-item.is c.in_ok-push_step.ensures
    (subst (λ z. IsStep z c.in_ok-step.step) c.as_str.ensures.value c.in_ok-step.ensures.step)

pub returns-clause-steps : goal.returns-clause-steps
returns-clause-steps c = subst (λ z. AreSteps z c.loop-token.steps.items) (take_all c.loop-token.token-index c.args.tokens.now c.loop-token-test.false) c.loop-token.invariant
