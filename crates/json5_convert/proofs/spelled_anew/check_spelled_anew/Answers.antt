use Rattle.std.proofs.Common.{rules}
use Rattle.json5_convert.proofs.AnewSteps.{blanks_back, blanks_fewer, both_ended, nothing_left}
use Rattle.json5_convert.proofs.spelled_anew.check_spelled_anew.Goals as goal

pub returns-then-is_empty-2 : goal.returns-then-is_empty-2
returns-then-is_empty-2 c =
    let l = c.loop-left_solid in
    l.invariant.2
    (blanks_back l.left.now l.right.now c.past_blanks-left_solid.result.now c.past_blanks-right_solid.result.now c.past_blanks-left_solid.ensures c.past_blanks-right_solid.ensures
    (both_ended c.past_blanks-left_solid.result.now c.past_blanks-right_solid.result.now (nothing_left c.past_blanks-left_solid.result.now c.if-is_empty.ensures) (nothing_left c.past_blanks-right_solid.result.now c.if-is_empty-2.ensures)))

pub loop-left_solid-preserved-in-Some : goal.loop-left_solid-preserved-in-Some
loop-left_solid-preserved-in-Some c = (
  search rules,
  search rules,
  λ k.
      let l = c.loop-left_solid in
      l.invariant.2
      (blanks_back l.left.now l.right.now c.past_blanks-left_solid.result.now c.past_blanks-right_solid.result.now c.past_blanks-left_solid.ensures c.past_blanks-right_solid.ensures ((c.in-Some.ensures c.args.stay).same k)),
)

pub loop-left_solid-smaller-in-Some : goal.loop-left_solid-smaller-in-Some
loop-left_solid-smaller-in-Some c =
    let l = c.loop-left_solid in
    blanks_fewer l.left.now l.right.now c.past_blanks-left_solid.result.now c.past_blanks-right_solid.result.now c.in-Some.left_after.now c.in-Some.right_after.now c.past_blanks-left_solid.ensures c.past_blanks-right_solid.ensures
    (c.in-Some.ensures c.args.stay).fewer

pub loop-left_solid-preserved : goal.loop-left_solid-preserved
loop-left_solid-preserved c = (
  search rules,
  search rules,
  λ k.
      let l = c.loop-left_solid in
      l.invariant.2
      (blanks_back l.left.now l.right.now c.past_blanks-left_solid.result.now c.past_blanks-right_solid.result.now c.past_blanks-left_solid.ensures c.past_blanks-right_solid.ensures (c.in_ok-left_after.ensures.same k)),
)

pub loop-left_solid-smaller : goal.loop-left_solid-smaller
loop-left_solid-smaller c =
    let l = c.loop-left_solid in
    blanks_fewer l.left.now l.right.now c.past_blanks-left_solid.result.now c.past_blanks-right_solid.result.now c.in_ok-left_after.left_after.now c.in_ok-left_after.right_after.now c.past_blanks-left_solid.ensures c.past_blanks-right_solid.ensures
    c.in_ok-left_after.ensures.fewer
