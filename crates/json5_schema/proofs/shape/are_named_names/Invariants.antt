use Rattle.std.proofs.Common.{◌≡◌, drop}
use Rattle.json5_types.specs.ValueMeanings.{fields_view}
use Rattle.json5_schema.specs.Shapes.{are_named_names}
use Rattle.json5_schema.proofs.shape.are_named_names.Given as goal

abbrev pub invariant-loop-names : goal.invariant-loop-names
invariant-loop-names l = are_named_names (fields_view (drop l.names-index l.members)) ≡ are_named_names (fields_view l.members)
