use Rattle.std.proofs.Common.{◌≡◌, drop, ◌++◌}
use Rattle.json5_types.specs.ValueMeanings.{fields_view}
use Rattle.json5_schema.specs.Conformance.{by_pattern}
use Rattle.json5_schema.specs.Views.{members_view, pairs_view}
use Rattle.json5_schema.proofs.asked.by_pattern.Given as goal

abbrev pub invariant-loop-index : goal.invariant-loop-index
invariant-loop-index l =
    (pairs_view l.pairs.items ++ by_pattern (fields_view (drop l.index l.schemas)) (members_view l.members))
    ≡ by_pattern (fields_view l.schemas) (members_view l.members)
