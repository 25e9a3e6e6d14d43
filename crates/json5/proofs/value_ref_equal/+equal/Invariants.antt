use Rattle.std.proofs.Common.{◌≡◌, length}
use Rattle.json5_types.specs.ValueMeanings.{items_view, fields_view}
use Rattle.json5.specs.ValueRefs.{refs_view, members_view}
use Rattle.json5_types.specs.ValueEquality.{items_eq, fields_eq}
use Rattle.json5.proofs.value_ref_equal.+equal.Given as goal

-- what is left decides it
abbrev pub invariant-equal_items-loop-item : goal.invariant-equal_items-loop-item
invariant-equal_items-loop-item l =
    (items_eq (refs_view l.item-iterator.a.rest.now) (items_view l.item-iterator.b.rest.now) ≡ items_eq (refs_view l.fn.items) (items_view l.fn.others))
    × (length l.item-iterator.a.rest.now ≡ length l.item-iterator.b.rest.now)

abbrev pub invariant-equal_members-loop-member : goal.invariant-equal_members-loop-member
invariant-equal_members-loop-member l =
    (fields_eq (members_view l.member-iterator.a.rest.now) (fields_view l.member-iterator.b.rest.now) ≡ fields_eq (members_view l.fn.members) (fields_view l.fn.fields))
    × (length l.member-iterator.a.rest.now ≡ length l.member-iterator.b.rest.now)
