use Rattle.std.proofs.Common.{length}
use Rattle.json5_read.specs.BuildSteps.{array_at}
use Rattle.json5_read.proofs.TakenElements.{Passes}
use Rattle.json5_read.proofs.unfinished.take_elements.Given as goal

abbrev pub invariant-loop-more : goal.invariant-loop-more
invariant-loop-more g l = Passes (array_at l.fn.elements.items l.fn.comma_due l.fn.scanner) (array_at l.elements.items l.due l.scanner) l.fn.comma_due l.due l.fn.scanner l.scanner

abbrev pub decreases-loop-more : goal.decreases-loop-more
decreases-loop-more g l = length l.scanner.unread
