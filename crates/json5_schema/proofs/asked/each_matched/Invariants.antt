use Rattle.std.proofs.Common.{◌≡◌, drop, ◌++◌}
use Rattle.std.specs.Str.{chars}
use Rattle.json5_types.specs.ValueMeanings.{value_of}
use Rattle.json5_schema.specs.Conformance.{each_matched}
use Rattle.json5_schema.specs.Views.{members_view, pairs_view}
use Rattle.json5_schema.proofs.asked.each_matched.Given as goal

abbrev pub invariant-loop-member : goal.invariant-loop-member
invariant-loop-member l =
    (pairs_view l.pairs.items ++ each_matched (chars l.pattern) (value_of l.schema) (members_view (drop l.member-index l.members)))
    ≡ each_matched (chars l.pattern) (value_of l.schema) (members_view l.members)
