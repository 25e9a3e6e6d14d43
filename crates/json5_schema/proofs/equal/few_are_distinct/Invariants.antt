use Rattle.std.proofs.Common.{◌≡◌, drop}
use Rattle.json5_types.specs.ValueMeanings.{items_view}
use Rattle.json5_schema.specs.Conformance.{are_distinct}
use Rattle.json5_schema.proofs.equal.few_are_distinct.Given as goal

-- those from there on decide it
abbrev pub invariant-loop-index : goal.invariant-loop-index
invariant-loop-index l = are_distinct (items_view (drop l.index l.values)) ≡ are_distinct (items_view l.values)
