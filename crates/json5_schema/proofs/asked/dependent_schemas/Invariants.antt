use Rattle.std.proofs.Common.{◌≡◌, drop, ◌++◌}
use Rattle.json5_types.specs.ValueMeanings.{value_of, fields_view}
use Rattle.json5_schema.specs.Conformance.{dependent_schemas}
use Rattle.json5_schema.specs.Views.{pairs_view}
use Rattle.json5_schema.proofs.asked.dependent_schemas.Given as goal

abbrev pub invariant-loop-index : goal.invariant-loop-index
invariant-loop-index l =
    (pairs_view l.pairs.items ++ dependent_schemas (fields_view (drop l.index l.schemas)) (fields_view l.members) (value_of l.value))
    ≡ dependent_schemas (fields_view l.schemas) (fields_view l.members) (value_of l.value)
