use Rattle.std.proofs.Common.{length}
use Rattle.json5_read.specs.BuildSteps.{object_at}
use Rattle.json5_read.proofs.TakenElements.{Passes}
use Rattle.json5_read.proofs.unfinished.take_members.Given as goal

abbrev pub invariant-loop-more : goal.invariant-loop-more
invariant-loop-more g l = Passes (object_at l.fn.members.items l.fn.comma_due l.fn.scanner) (object_at l.members.items l.due l.scanner) l.fn.comma_due l.due l.fn.scanner l.scanner

abbrev pub decreases-loop-more : goal.decreases-loop-more
decreases-loop-more g l = length l.scanner.unread
