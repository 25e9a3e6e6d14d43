use Rattle.json5_convert.proofs.AnewSteps.{keys_on}
use Rattle.json5_convert.proofs.spelled_anew.past_keys.Goals as goal

pub returns-then-eq : goal.returns-then-eq
returns-then-eq c = keys_on c.args.left.now c.args.right.now c.in_ok-key.left_after.now c.in_ok-other.right_after.now c.in_ok-key.key c.in_ok-other.other (c.eq.ensures.same.0 c.if-eq.true) c.in_ok-key.ensures c.in_ok-other.ensures
