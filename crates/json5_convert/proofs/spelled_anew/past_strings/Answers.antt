use Rattle.json5_convert.proofs.AnewSteps.{strings_on}
use Rattle.json5_convert.proofs.spelled_anew.past_strings.Goals as goal

pub returns-then-eq : goal.returns-then-eq
returns-then-eq c = strings_on c.args.left.now c.args.right.now c.in_ok-text.left_after.now c.in_ok-other.right_after.now c.in_ok-text.text c.in_ok-other.other (c.eq.ensures.same.0 c.if-eq.true) c.in_ok-text.ensures c.in_ok-other.ensures
