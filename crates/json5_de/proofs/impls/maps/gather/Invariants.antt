use Rattle.std.proofs.Common.{List, length, None, false}
use Rattle.json5_de.proofs.MemberLoops.{ReadingMembers}
use Rattle.json5_de.proofs.ReaderLoops.{object_from}
use Rattle.json5_de.proofs.impls.maps.gather.Given as goal

abbrev pub invariant-loop-next : goal.invariant-loop-next
invariant-loop-next g l = record {
  pairs : List (g.row.K.Denot × g.row.V.Denot);
  gathered : g.M.Gathers.gathered l.items pairs;
  reading : ReadingMembers g.K.DeserializeKey.content g.V.Deserialize.content g.K.DeserializeKey.convert g.V.Deserialize.convert l.fn.de pairs None (object_from l.de l.start l.comma_due false);
}

abbrev pub decreases-loop-next : goal.decreases-loop-next
decreases-loop-next g l = length l.de.unread
