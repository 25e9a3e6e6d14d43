use Rattle.std.proofs.Common.{◌≡◌, take}
use Rattle.json5_types.specs.ValueMeanings.{items_view, fields_view}
use Rattle.json5.specs.ValueRefs.{refs_view, members_view}
use Rattle.json5.proofs.value_ref.+unborrowed.Given as goal

abbrev pub invariant-unborrowed_items-loop-item : goal.invariant-unborrowed_items-loop-item
invariant-unborrowed_items-loop-item l = refs_view l.copies.items ≡ items_view (take l.item-index l.items)

abbrev pub invariant-unborrowed_members-loop-key : goal.invariant-unborrowed_members-loop-key
invariant-unborrowed_members-loop-key l = members_view l.copies.items ≡ fields_view (take l.key-index l.fields)
