use Rattle.std.proofs.Common.{◌≡◌, drop, ◌++◌}
use Rattle.json5_types.specs.ValueMeanings.{value_of, items_view}
use Rattle.json5_schema.specs.Conformance.{each_item}
use Rattle.json5_schema.specs.Views.{pairs_view}
use Rattle.json5_schema.proofs.asked.each_item.Given as goal

abbrev pub invariant-loop-value : goal.invariant-loop-value
invariant-loop-value l = (pairs_view l.pairs.items ++ each_item (value_of l.schema) (items_view (drop l.value-index l.items))) ≡ each_item (value_of l.schema) (items_view l.items)
