use Rattle.std.proofs.Common.{◌≡◌, drop, ◌++◌}
use Rattle.json5_types.specs.ValueMeanings.{value_of, items_view}
use Rattle.json5_schema.specs.Conformance.{each_schema}
use Rattle.json5_schema.specs.Views.{pairs_view}
use Rattle.json5_schema.proofs.asked.each_schema.Given as goal

abbrev pub invariant-loop-schema : goal.invariant-loop-schema
invariant-loop-schema l = (pairs_view l.pairs.items ++ each_schema (items_view (drop l.schema-index l.schemas)) (value_of l.value)) ≡ each_schema (items_view l.schemas) (value_of l.value)
