use Rattle.std.proofs.Common.{length}
use Rattle.json5_de.proofs.ElementLoops.{Reading}
use Rattle.json5_de.proofs.ReaderLoops.{array_from}
use Rattle.json5_de.proofs.impls.lists.VecDeserialize.deserialize.Given as goal

abbrev pub invariant-loop-next : goal.invariant-loop-next
invariant-loop-next g l = Reading g.T.Deserialize.content g.T.Deserialize.convert l.fn.de l.items.items (array_from l.de l.start l.comma_due)

abbrev pub decreases-loop-next : goal.decreases-loop-next
decreases-loop-next g l = length l.de.unread
