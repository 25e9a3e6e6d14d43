use Rattle.std.proofs.Common.{rules, subst}
use Rattle.std.proofs.lemmas.List.{take_all}
use Rattle.cli_edit.specs.Makes.{AreTokensOf}
use Rattle.cli_edit.proofs.ValuesMoved.{tokens_more}
use Rattle.cli_edit.proofs.patches.tokens_of.Goals as goal

pub loop-step-preserved : goal.loop-step-preserved
loop-step-preserved c =
    tokens_more c.loop-step.step-index c.args.steps.now _ c.loop-step.tokens.items c.push.new.self.items c.in_ok-token.token c.loop-step-test.true c.loop-step.invariant (search rules) c.in_ok-token.ensures

pub returns : goal.returns
returns c = subst (λ z. AreTokensOf z c.loop-step.tokens.items) (take_all c.loop-step.step-index c.args.steps.now c.loop-step-test.false) c.loop-step.invariant
