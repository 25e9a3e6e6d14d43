use Rattle.json5_convert.proofs.AnewSteps.{alike_on, quoted_on, unquoted_on}
use Rattle.json5_convert.proofs.spelled_anew.past_short.Goals as goal

pub returns-in-Some : goal.returns-in-Some
returns-in-Some c =
    alike_on c.in-Some.first c.args.left.now c.args.right.now c.in-Some.left_rest.now c.in-Some.right_rest.now c.in_ok-left_after.left_after.now c.in_ok-left_after.right_after.now c.in-Some.ensures c.in_ok-left_after.ensures

pub returns-in-Some-past_quotes : goal.returns-in-Some-past_quotes
returns-in-Some-past_quotes c = unquoted_on c.args.left.now c.args.right.now c.in-Some-past_quotes.left_after.now c.in-Some-past_quotes.right_after.now c.in-Some-past_quotes.ensures

pub returns : goal.returns
returns c = quoted_on c.args.left.now c.args.right.now c.in_ok-right_after.left_after.now c.in_ok-right_after.right_after.now c.in_ok-right_after.ensures
