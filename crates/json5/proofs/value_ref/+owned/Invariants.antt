use Rattle.std.proofs.Common.{◌≡◌, take}
use Rattle.json5_types.specs.ValueMeanings.{items_view, fields_view}
use Rattle.json5.specs.ValueRefs.{refs_view, members_view}
use Rattle.json5.proofs.value_ref.+owned.Given as goal

abbrev pub invariant-owned_items-loop-item : goal.invariant-owned_items-loop-item
invariant-owned_items-loop-item l = items_view l.copies.items ≡ refs_view (take l.item-index l.items)

abbrev pub invariant-owned_members-loop-key : goal.invariant-owned_members-loop-key
invariant-owned_members-loop-key l = fields_view l.copies.items ≡ members_view (take l.key-index l.members)
