use Rattle.std.proofs.Common.{refl, rules}
use Rattle.json5_lexemes.proofs.SharedSteps.{word_begun, word_done, word_smaller, word_step}
use Rattle.json5_lexemes.proofs.shared.past_word.Goals as goal

pub loop-left_run-init : goal.loop-left_run-init
loop-left_run-init c = (c.utf8.left, c.utf8.right, word_begun c.args.left.now c.args.right.now)

pub returns-then-ends_word-2 : goal.returns-then-ends_word-2
returns-then-ends_word-2 c =
    word_done c.args.first c.args.left.now c.args.right.now c.loop-left_run.left_rest.now c.loop-left_run.right_rest.now c.in-Some.left_run.now c.in-Some.right_run.now c.requires c.loop-left_run.invariant.2 c.in-Some.ensures
    (c.if-ends_word.ensures refl) (c.if-ends_word-2.ensures refl)

pub loop-left_run-preserved : goal.loop-left_run-preserved
loop-left_run-preserved c = (
  search rules,
  search rules,
  word_step c.args.left.now c.args.right.now c.loop-left_run.left_rest.now c.loop-left_run.right_rest.now c.in-Some.left_run.now c.in-Some.right_run.now c.in-Some-past_part.left_next.now c.in-Some-past_part.right_next.now
      c.loop-left_run.invariant.2 c.in-Some.ensures c.in-Some-past_part.ensures,
)

pub loop-left_run-smaller : goal.loop-left_run-smaller
loop-left_run-smaller c =
    word_smaller c.loop-left_run.left_rest.now c.loop-left_run.right_rest.now c.in-Some.left_run.now c.in-Some.right_run.now c.in-Some-past_part.left_next.now c.in-Some-past_part.right_next.now c.in-Some.ensures c.in-Some-past_part.ensures
