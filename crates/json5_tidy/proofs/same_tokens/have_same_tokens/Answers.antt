use Rattle.std.proofs.Common.{rules}
use Rattle.json5_tidy.proofs.SameSteps.{blanks_back, fewer, first_back}
use Rattle.json5_tidy.proofs.same_tokens.have_same_tokens.Goals as goal

pub loop-first-init : goal.loop-first-init
loop-first-init c = (c.utf8.text, c.utf8.made, λ k. k)

pub returns-in_default : goal.returns-in_default
returns-in_default c = λ t.
    c.loop-first.invariant.2
    (blanks_back c.loop-first.left.now c.loop-first.right.now c.past_blanks-left_solid.result.now c.past_blanks-right_solid.result.now c.past_blanks-left_solid.ensures c.past_blanks-right_solid.ensures (c.are_empty.ensures t))

pub loop-first-preserved : goal.loop-first-preserved
loop-first-preserved c = (
  search rules,
  search rules,
  λ k.
      c.loop-first.invariant.2
      (blanks_back c.loop-first.left.now c.loop-first.right.now c.past_blanks-left_solid.result.now c.past_blanks-right_solid.result.now c.past_blanks-left_solid.ensures c.past_blanks-right_solid.ensures
      (first_back c.in-Some.first c.past_blanks-left_solid.result.now c.past_blanks-right_solid.result.now c.in-Some.left_rest.now c.in-Some.right_rest.now c.in-Some-past_token.left_after.now c.in-Some-past_token.right_after.now c.in-Some.ensures
      c.in-Some-past_token.ensures k)),
)

pub loop-first-smaller : goal.loop-first-smaller
loop-first-smaller c =
    fewer c.in-Some.first c.loop-first.left.now c.past_blanks-left_solid.result.now c.past_blanks-right_solid.result.now c.in-Some.left_rest.now c.in-Some.right_rest.now c.in-Some-past_token.left_after.now c.in-Some-past_token.right_after.now
    c.past_blanks-left_solid.ensures c.in-Some.ensures.0 c.in-Some-past_token.ensures
