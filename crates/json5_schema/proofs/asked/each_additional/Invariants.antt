use Rattle.std.proofs.Common.{◌≡◌, drop, ◌++◌}
use Rattle.json5_types.specs.ValueMeanings.{value_of, fields_view}
use Rattle.json5_schema.specs.Conformance.{each_additional}
use Rattle.json5_schema.specs.Views.{members_view, pairs_view}
use Rattle.json5_schema.proofs.asked.each_additional.Given as goal

abbrev pub invariant-loop-member : goal.invariant-loop-member
invariant-loop-member l =
    (pairs_view l.pairs.items ++ each_additional (value_of l.schema) (fields_view l.keywords) (members_view (drop l.member-index l.members)))
    ≡ each_additional (value_of l.schema) (fields_view l.keywords) (members_view l.members)
