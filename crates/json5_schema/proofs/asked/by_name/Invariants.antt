use Rattle.std.proofs.Common.{◌≡◌, drop, ◌++◌}
use Rattle.json5_types.specs.ValueMeanings.{fields_view}
use Rattle.json5_schema.specs.Conformance.{by_name}
use Rattle.json5_schema.specs.Views.{pairs_view}
use Rattle.json5_schema.proofs.asked.by_name.Given as goal

abbrev pub invariant-loop-index : goal.invariant-loop-index
invariant-loop-index l = (pairs_view l.pairs.items ++ by_name (fields_view (drop l.index l.properties)) (fields_view l.members)) ≡ by_name (fields_view l.properties) (fields_view l.members)
