use Rattle.std.proofs.Common.{◌≡◌, drop}
use Rattle.json5_types.specs.ValueMeanings.{items_view}
use Rattle.json5_schema.specs.Shapes.{are_texts}
use Rattle.json5_schema.proofs.shape.are_names.Given as goal

abbrev pub invariant-loop-name : goal.invariant-loop-name
invariant-loop-name l = are_texts (items_view (drop l.name-index l.names)) ≡ are_texts (items_view l.names)
