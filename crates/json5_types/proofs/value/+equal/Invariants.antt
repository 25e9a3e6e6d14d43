use Rattle.std.proofs.Common.{◌≡◌, length}
use Rattle.json5_types.specs.ValueMeanings.{items_view, fields_view}
use Rattle.json5_types.specs.ValueEquality.{items_eq, fields_eq}
use Rattle.json5_types.proofs.value.+equal.Given as goal

-- what is left decides it
abbrev pub invariant-equal_items-loop-item : goal.invariant-equal_items-loop-item
invariant-equal_items-loop-item l =
    (items_eq (items_view l.item-iterator.a.rest.now) (items_view l.item-iterator.b.rest.now) ≡ items_eq (items_view l.fn.items) (items_view l.fn.others))
    × (length l.item-iterator.a.rest.now ≡ length l.item-iterator.b.rest.now)

abbrev pub invariant-equal_fields-loop-field : goal.invariant-equal_fields-loop-field
invariant-equal_fields-loop-field l =
    (fields_eq (fields_view l.field-iterator.a.rest.now) (fields_view l.field-iterator.b.rest.now) ≡ fields_eq (fields_view l.fn.fields) (fields_view l.fn.others))
    × (length l.field-iterator.a.rest.now ≡ length l.field-iterator.b.rest.now)
