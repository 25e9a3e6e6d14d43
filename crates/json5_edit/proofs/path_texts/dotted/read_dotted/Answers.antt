use Rattle.std.proofs.Common.{ap, rules, ◌∙◌}
use Rattle.std.specs.Prelude.{◌==◌}
use Rattle.json5_edit.proofs.PathsRead.{all_read, goes_on, none_from}
use Rattle.json5_edit.proofs.path_texts.dotted.read_dotted.Goals as goal

pub steps-preserved : goal.steps-preserved
steps-preserved c =
    let l = c.steps in
    (goes_on c.args.text.now l.rest.now c.in_ok-step.after.now l.steps.items c.push.new.self.items c.in_ok-step.step c.is_empty-in-steps.result (c.is_empty-in-steps.ensures ∙ ap (λ n. n == 0) l.steps.ok.0) c.in_ok-push.ensures.items l.invariant.0 c.in_ok-step.ensures, search rules)

pub returns : goal.returns
returns c = let l = c.steps in all_read c.args.text.now l.rest.now l.steps.items l.invariant.0 (none_from l.rest.now c.is_empty.result c.is_empty.ensures c.steps-test.false)
