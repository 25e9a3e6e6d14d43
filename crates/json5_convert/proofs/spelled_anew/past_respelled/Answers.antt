use Rattle.std.proofs.Common.{refl}
use Rattle.json5_convert.proofs.AnewSteps.{numbers_on}
use Rattle.json5_convert.proofs.spelled_anew.past_respelled.Goals as goal

pub returns-then-begins_number : goal.returns-then-begins_number
returns-then-begins_number c = numbers_on c.args.left.now c.args.right.now c.in_ok-left_after.left_after.now c.in_ok-left_after.right_after.now (c.if-begins_number.ensures refl) c.in_ok-left_after.ensures
