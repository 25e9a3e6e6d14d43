use Rattle.std.proofs.Common.{◌≡◌, length}
use Rattle.json5.specs.Lending.{map_state_of}
use Rattle.json5.proofs.FieldLoops.{FieldsSoFar}
use Rattle.test_own_types.proofs.pairs.read_known.Given as goal

abbrev pub invariant-loop-map : goal.invariant-loop-map
invariant-loop-map g l = record {
  same : g.F.StructFields.kept l.reading ≡ g.F.StructFields.shape l.fn.fields;
  so_far : FieldsSoFar (g.F.StructFields.layout (g.F.StructFields.shape l.fn.fields)) (g.F.StructFields.state l.reading) l.initial.map l.map;
}

abbrev pub decreases-loop-map : goal.decreases-loop-map
decreases-loop-map g l = length (map_state_of l.map).at.reader.unread
