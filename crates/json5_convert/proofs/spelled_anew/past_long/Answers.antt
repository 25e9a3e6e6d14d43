use Rattle.json5_convert.proofs.AnewSteps.{comma_on, key_on, token_on}
use Rattle.json5_convert.proofs.spelled_anew.past_long.Goals as goal

pub returns-then-is_some-2 : goal.returns-then-is_some-2
returns-then-is_some-2 c = c.in_ok-left_after.ensures c.args.stay

pub returns-in-Some-past_comma : goal.returns-in-Some-past_comma
returns-in-Some-past_comma c = comma_on c.args.left.now c.args.right.now c.in-Some-past_comma.left_after.now c.in-Some-past_comma.right_after.now c.in-Some-past_comma.ensures c.args.stay

pub returns-then-colon_due : goal.returns-then-colon_due
returns-then-colon_due c =
    key_on c.in_ok-colon_due.colon_due c.args.stay c.args.left.now c.args.right.now c.in_ok-colon_due.left_rest.now c.in_ok-colon_due.right_rest.now c.in_ok-left_end.left_end.now c.in_ok-left_end.right_end.now c.if-colon_due.true c.in_ok-colon_due.ensures c.in_ok-left_end.ensures

pub returns : goal.returns
returns c = token_on c.in_ok-colon_due.colon_due c.args.stay c.args.left.now c.args.right.now c.in_ok-colon_due.left_rest.now c.in_ok-colon_due.right_rest.now c.if-colon_due.false c.in_ok-colon_due.ensures
