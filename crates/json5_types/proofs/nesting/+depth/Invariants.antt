use Rattle.std.proofs.Common.{◌≡◌, ◌<◌, ◌-◌, nat_le, drop}
use Rattle.json5_types.specs.ValueMeanings.{items_view, fields_view}
use Rattle.json5_types.specs.ValueLookups.{items_depth, fields_depth}
use Rattle.json5_types.proofs.nesting.+depth.Given as goal

-- what is left decides it
abbrev pub invariant-fields_fit-loop-value : goal.invariant-fields_fit-loop-value
invariant-fields_fit-loop-value l = (0 < l.room) × (nat_le (fields_depth (fields_view (drop l.value-index l.fields))) (l.room - 1) ≡ nat_le (fields_depth (fields_view l.fields)) (l.room - 1))

abbrev pub invariant-items_fit-loop-item : goal.invariant-items_fit-loop-item
invariant-items_fit-loop-item l = (0 < l.room) × (nat_le (items_depth (items_view (drop l.item-index l.items))) (l.room - 1) ≡ nat_le (items_depth (items_view l.items)) (l.room - 1))
