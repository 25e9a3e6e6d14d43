use Rattle.std.proofs.Common.{take, rules, ap, ◌∙◌}
use Rattle.std.proofs.lemmas.List.{take_more}
use Rattle.json5_types.specs.ValueMeanings.{object, items_view, fields_view}
use Rattle.json5_types.proofs.ValuesCompared.{view-Object as owned-Object}
use Rattle.json5.specs.ValueRefs.{refs_view, members_view}
use Rattle.json5.proofs.RefsCopied.{one_more_unborrowed, one_more_unborrowed_member, view-Object}
use Rattle.json5.proofs.value_ref.+unborrowed.Goals as goal

pub unborrowed-returns-in_ok-unborrowed_members-in-Object : goal.unborrowed-returns-in_ok-unborrowed_members-in-Object
unborrowed-returns-in_ok-unborrowed_members-in-Object t c =
    rw (c.in-Object.is, owned-Object c.in-Object.fields, view-Object c.in_ok-unborrowed_members-in-Object.field-0, ← c.deref-in-Object.ensures.value) (ap object c.in_ok-unborrowed_members-in-Object.ensures)

pub unborrowed_items-loop-item-preserved : goal.unborrowed_items-loop-item-preserved
unborrowed_items-loop-item-preserved t c =
    let l = c.loop-item in
    let one = one_more_unborrowed l.copies.items (take l.item-index c.args.items.now) c.in_ok-unborrowed.field-0 c.item-item.result l.invariant c.in_ok-unborrowed.ensures in
    ap refs_view c.in_ok-push.ensures.items ∙ one ∙ ap items_view (search (rules, take_more, c.item-item.is))

pub unborrowed_members-loop-key-preserved : goal.unborrowed_members-loop-key-preserved
unborrowed_members-loop-key-preserved t c =
    let l = c.loop-key in
    let one = one_more_unborrowed_member l.copies.items (take l.key-index c.args.fields.now) c.in_ok-key.key c.in_ok-value.value c.loop-key-item.result l.invariant (c.in_ok-key.ensures ∙ c.as_str.ensures.value) c.in_ok-value.ensures in
    ap members_view c.in_ok-push.ensures.items ∙ one ∙ ap fields_view (search (rules, take_more, c.loop-key-item.is))
