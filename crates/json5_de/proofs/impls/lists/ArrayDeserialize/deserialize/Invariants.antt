use Rattle.std.proofs.Common.{◌-◌, ◌≤◌, length}
use Rattle.std.specs.Vec.{vec_len}
use Rattle.json5_de.specs.Lending.{state_of, HoldsTheSame}
use Rattle.json5_de.proofs.ElementLoops.{Reading}
use Rattle.json5_de.proofs.impls.lists.ArrayDeserialize.deserialize.Given as goal

abbrev pub invariant-loop-alloc : goal.invariant-loop-alloc
invariant-loop-alloc g l = record {
  same_reference : HoldsTheSame l.initial.seq l.seq;
  reading : Reading g.T.Deserialize.content g.T.Deserialize.convert l.fn.de l.items.items (state_of l.seq);
  few : length l.items.items ≤ g.row.N;
}

abbrev pub decreases-loop-alloc : goal.decreases-loop-alloc
decreases-loop-alloc g l = g.row.N - vec_len l.items
