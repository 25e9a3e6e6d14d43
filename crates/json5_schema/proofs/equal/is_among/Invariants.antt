use Rattle.std.proofs.Common.{◌≡◌, drop}
use Rattle.json5_types.specs.ValueMeanings.{value_of, items_view}
use Rattle.json5_schema.specs.Conformance.{is_among}
use Rattle.json5_schema.proofs.equal.is_among.Given as goal

abbrev pub invariant-loop-other : goal.invariant-loop-other
invariant-loop-other l = is_among (value_of l.value) (items_view (drop l.other-index l.others)) ≡ is_among (value_of l.value) (items_view l.others)
