use Rattle.json5_convert.proofs.AnewSteps.{colon_found, colons_on}
use Rattle.json5_convert.proofs.spelled_anew.past_colon.Goals as goal

pub returns-in-Some-past_byte : goal.returns-in-Some-past_byte
returns-in-Some-past_byte c =
    let l = c.loop-left_after in
    colon_found c.args.left.now c.args.right.now l.left_rest.now l.right_rest.now c.in-Some.left_after.now c.in-Some-past_byte.right_after.now l.invariant.2
    (colons_on l.left_rest.now l.right_rest.now c.in-Some.left_after.now c.in-Some-past_byte.right_after.now c.in-Some.ensures c.in-Some-past_byte.ensures)
