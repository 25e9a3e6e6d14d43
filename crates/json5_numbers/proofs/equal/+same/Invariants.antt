use Rattle.std.proofs.Common.{◌≡◌, length, drop}
use Rattle.json5_types.specs.ValueMeanings.{items_view, fields_view}
use Rattle.json5_numbers.specs.Sameness.{same_items, has_fields}
use Rattle.json5_numbers.proofs.equal.+same.Given as goal

-- what is left decides it
abbrev pub invariant-same_items-loop-item : goal.invariant-same_items-loop-item
invariant-same_items-loop-item l =
    (same_items (items_view l.item-iterator.a.rest.now) (items_view l.item-iterator.b.rest.now) ≡ same_items (items_view l.fn.items) (items_view l.fn.others))
    × (length l.item-iterator.a.rest.now ≡ length l.item-iterator.b.rest.now)

abbrev pub invariant-has_members-loop-index : goal.invariant-has_members-loop-index
invariant-has_members-loop-index l = has_fields (fields_view (drop l.index l.members)) (fields_view l.others) ≡ has_fields (fields_view l.members) (fields_view l.others)
