use Rattle.json5_convert.proofs.AnewSteps.{comment_goes, comment_stays, left_blank_on, right_blank_on}
use Rattle.json5_convert.proofs.spelled_anew.past_gap.Goals as goal

pub returns-then-not-stay : goal.returns-then-not-stay
returns-then-not-stay c = comment_goes c.args.left.now c.args.right.now c.in-Some.left_after.now c.if-not-stay.true c.in-Some.ensures

pub returns-in-Some-past_repeated : goal.returns-in-Some-past_repeated
returns-in-Some-past_repeated c =
    comment_stays c.args.left.now c.args.right.now c.in-Some.left_after.now c.in-Some-past_repeated.right_after.now c.in-Some.comment.now c.if-not-stay.false c.in-Some.ensures c.in-Some-past_repeated.ensures

pub returns-in-Some-past_blank : goal.returns-in-Some-past_blank
returns-in-Some-past_blank c = left_blank_on c.args.left.now c.args.right.now c.in-Some-past_blank.left_after.now c.in-Some-past_blank.ensures

pub returns : goal.returns
returns c = right_blank_on c.args.left.now c.args.right.now c.in_ok-right_after.right_after.now c.in_ok-right_after.ensures
