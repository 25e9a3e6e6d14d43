use Rattle.std.proofs.Common.{◌≡◌, ◌++◌}
use Rattle.json5_types.specs.ValueMeanings.{items_view}
use Rattle.json5_schema.specs.Conformance.{by_index}
use Rattle.json5_schema.specs.Views.{pairs_view}
use Rattle.json5_schema.proofs.asked.by_index.Given as goal

abbrev pub invariant-loop-schema : goal.invariant-loop-schema
invariant-loop-schema l =
    (pairs_view l.pairs.items ++ by_index (items_view l.schema-iterator.a.rest.now) (items_view l.schema-iterator.b.rest.now))
    ≡ by_index (items_view l.schemas) (items_view l.items)
