use Rattle.json5_edit.proofs.MembersSorted.{all_passed, some_go_on, some_start}
use Rattle.json5_edit.proofs.sorting.rest_of.Goals as goal

pub loop-init : goal.loop-init
loop-init c = rw c.new-entries.ensures.items (some_start c.args.walk.now)

pub loop-preserved : goal.loop-preserved
loop-preserved c = rw c.in_ok-push.ensures.items (some_go_on c.in-Some.entry c.loop.invariant (rw c.in-Some.is at c.in_ok-entry.ensures))

pub returns-in_default : goal.returns-in_default
returns-in_default c = all_passed c.loop.invariant (rw c.in_default.is at c.in_ok-entry.ensures)
