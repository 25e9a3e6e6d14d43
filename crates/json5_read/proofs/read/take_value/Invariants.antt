use Rattle.std.proofs.Common.{length}
use Rattle.json5_read.specs.BuildSteps.{Building, IsInFront}
use Rattle.json5_read.specs.OwnedReads.{datum_at}
use Rattle.json5_read.specs.ModelSteps.{SameText}
use Rattle.json5_read.proofs.read.take_value.Given as goal

abbrev pub invariant-loop-next : goal.invariant-loop-next
invariant-loop-next g l = Building l.fn.room (datum_at l.fn.room l.fn.scanner) l.stack.items l.next l.scanner × IsInFront l.next l.scanner × SameText l.fn.scanner l.scanner

abbrev pub decreases-loop-next : goal.decreases-loop-next
decreases-loop-next g l = length l.scanner.unread
