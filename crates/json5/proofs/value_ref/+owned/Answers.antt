use Rattle.std.proofs.Common.{take, rules, ap, ◌∙◌}
use Rattle.std.proofs.lemmas.List.{take_more}
use Rattle.json5_types.specs.ValueMeanings.{object, items_view, fields_view}
use Rattle.json5_types.proofs.ValuesCompared.{view-Object as owned-Object}
use Rattle.json5.specs.ValueRefs.{refs_view, members_view}
use Rattle.json5.proofs.RefsCopied.{one_more_owned, one_more_owned_member, view-Object}
use Rattle.json5.proofs.value_ref.+owned.Goals as goal

pub owned-returns-in_ok-owned_members-in-Object : goal.owned-returns-in_ok-owned_members-in-Object
owned-returns-in_ok-owned_members-in-Object t c =
    rw (c.in-Object.is, view-Object c.in-Object.members, owned-Object c.in_ok-owned_members-in-Object.field-0, ← c.deref-in-Object.ensures.value) (ap object c.in_ok-owned_members-in-Object.ensures)

pub owned_items-loop-item-preserved : goal.owned_items-loop-item-preserved
owned_items-loop-item-preserved t c =
    let l = c.loop-item in
    let one = one_more_owned l.copies.items (take l.item-index c.args.items.now) c.in_ok-owned.field-0 c.item-item.result l.invariant c.in_ok-owned.ensures in
    ap items_view c.in_ok-push.ensures.items ∙ one ∙ ap refs_view (search (rules, take_more, c.item-item.is))

pub owned_members-loop-key-preserved : goal.owned_members-loop-key-preserved
owned_members-loop-key-preserved t c =
    let l = c.loop-key in
    let one = one_more_owned_member l.copies.items (take l.key-index c.args.members.now) c.in_ok-key.key c.in_ok-owned.field-0 c.loop-key-item.result l.invariant (c.in_ok-key.ensures.ok ∙ c.as_str.ensures) c.in_ok-owned.ensures in
    ap fields_view c.in_ok-push.ensures.items ∙ one ∙ ap members_view (search (rules, take_more, c.loop-key-item.is))
