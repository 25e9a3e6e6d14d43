use Rattle.std.proofs.Common.{[], subst, sym}
use Rattle.json5_edit.specs.PathTexts.{AreStepsOf, no_step}
use Rattle.json5_edit.proofs.ArraysLed.{all_steps, steps_more}
use Rattle.json5_edit.proofs.path_texts.parsed.Path.steps_in.Goals as goal

pub loop-written-init : goal.loop-written-init
loop-written-init c = subst (AreStepsOf c.args.text.now []) (sym c.new-steps.ensures.items) no_step

pub loop-written-preserved : goal.loop-written-preserved
loop-written-preserved c = steps_more c.loop-written.written-index c.args.self.now.written.items c.written-item.result c.loop-written.steps.items c.push.new.self.items c.in_ok-step.step (rw c.deref-written-items.ensures.value at c.loop-written-test.true) (rw c.deref-written-items.ensures.value at c.written-item.is) c.loop-written.invariant (rw c.as_slice.ensures.value at c.in_ok-step.ensures.taken) c.in_ok-push.ensures.items

pub returns : goal.returns
returns c = record { steps = all_steps (c.loop-written.written-index) c.args.self.now.written.items c.loop-written.steps.items (rw c.deref-written-items.ensures.value at c.loop-written-test.false) c.loop-written.invariant; refused = tt }
