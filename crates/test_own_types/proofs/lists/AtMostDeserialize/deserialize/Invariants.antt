use Rattle.std.proofs.Common.{◌≤◌, length}
use Rattle.json5.specs.Lending.{state_of, HoldsTheSame}
use Rattle.json5.proofs.ElementLoops.{Reading}
use Rattle.test_own_types.proofs.lists.AtMostDeserialize.deserialize.Given as goal

abbrev pub invariant-loop-seq : goal.invariant-loop-seq
invariant-loop-seq g l = record {
  same_reference : HoldsTheSame l.initial.seq l.seq;
  reading : Reading g.T.Deserialize.content g.T.Deserialize.convert l.fn.de l.values.items (state_of l.seq);
  few : length l.values.items ≤ g.row.N;
}

abbrev pub decreases-loop-seq : goal.decreases-loop-seq
decreases-loop-seq g l = length (state_of l.seq).reader.unread
