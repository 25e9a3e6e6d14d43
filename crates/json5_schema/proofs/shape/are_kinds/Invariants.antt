use Rattle.std.proofs.Common.{◌≡◌, drop}
use Rattle.json5_types.specs.ValueMeanings.{items_view}
use Rattle.json5_schema.specs.Shapes.{are_kinds}
use Rattle.json5_schema.proofs.shape.are_kinds.Given as goal

abbrev pub invariant-loop-name : goal.invariant-loop-name
invariant-loop-name l = are_kinds (items_view (drop l.name-index l.names)) ≡ are_kinds (items_view l.names)
