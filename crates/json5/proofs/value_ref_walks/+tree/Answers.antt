use Rattle.json5_read.specs.declared.brackets.BracketKind.TheVariants as kind
use Rattle.json5_types.specs.ValueMeanings.{array, object}
use Rattle.json5_walk.specs.Moves.{Stays}
use Rattle.json5_walk.proofs.Entries.{after_gap}
use Rattle.json5.specs.declared.value_ref.ValueRef as ref
use Rattle.json5.specs.ValueRefs.{refs_view, members_view}
use Rattle.json5.proofs.RefsCopied.{view-Array, view-Object}
use Rattle.json5.proofs.RefsRead.{closed_at, comma_at, elements_closed, elements_on, end_at, from_kept, grown, item_at, key_at, member_pushed, members_closed, members_on, no_key_at, pushed, taken_within}
use Rattle.json5.proofs.value_ref_walks.+tree.Goals as goal

pub take_elements-returns-in_default : goal.take_elements-returns-in_default
take_elements-returns-in_default t c = elements_closed (refs_view c.loop.items.items) c.loop.invariant (closed_at c.in_ok-item.field-0 c.in_default.is c.in_ok-item.ensures)

pub take_elements-returns-then-not-branch : goal.take_elements-returns-then-not-branch
take_elements-returns-then-not-branch t c =
    let new = c.push.new.self.items in
    let taken = pushed c.loop.items.items new c.in-Some.item (grown c.push.result c.in_ok-ok.field-0 new _ _ c.in_ok-ok.ensures.value c.push.ensures.items) c.loop.invariant (item_at c.in_ok-item.field-0 c.in-Some.item c.in-Some.is c.in_ok-item.ensures) in
    elements_closed (refs_view new) taken (end_at c.in_ok-take_part.field-0 c.if-not-branch.true c.in_ok-take_part.ensures)

pub take_elements-loop-preserved : goal.take_elements-loop-preserved
take_elements-loop-preserved t c =
    let new = c.push.new.self.items in
    let taken = pushed c.loop.items.items new c.in-Some.item (grown c.push.result c.in_ok-ok.field-0 new _ _ c.in_ok-ok.ensures.value c.push.ensures.items) c.loop.invariant (item_at c.in_ok-item.field-0 c.in-Some.item c.in-Some.is c.in_ok-item.ensures) in
    elements_on (refs_view new) taken (comma_at c.in_ok-take_part.field-0 c.if-not-branch.false c.in_ok-take_part.ensures)

pub take_members-returns-in_default : goal.take_members-returns-in_default
take_members-returns-in_default t c = members_closed (members_view c.loop.members.items) c.loop.invariant (no_key_at c.in_ok-key.field-0 c.in_default.is c.in_ok-key.ensures)

pub take_members-returns-then-not-branch : goal.take_members-returns-then-not-branch
take_members-returns-then-not-branch t c =
    let new = c.push.new.self.items in
    let taken = member_pushed c.loop.members.items new c.in-Some.key c.in_ok-value.value (grown c.push.result c.in_ok-ok.field-0 new _ _ c.in_ok-ok.ensures.value c.push.ensures.items) c.loop.invariant
    (key_at c.in_ok-key.field-0 c.in-Some.key c.in-Some.is c.in_ok-key.ensures) c.in_ok-take_colon.ensures (item_at c.in_ok-take_value.field-0 c.in_ok-value.value c.in_ok-value.was c.in_ok-take_value.ensures) in
    members_closed (members_view new) taken (end_at c.in_ok-take_part.field-0 c.if-not-branch.true c.in_ok-take_part.ensures)

pub take_members-loop-preserved : goal.take_members-loop-preserved
take_members-loop-preserved t c =
    let new = c.push.new.self.items in
    let taken = member_pushed c.loop.members.items new c.in-Some.key c.in_ok-value.value (grown c.push.result c.in_ok-ok.field-0 new _ _ c.in_ok-ok.ensures.value c.push.ensures.items) c.loop.invariant
    (key_at c.in_ok-key.field-0 c.in-Some.key c.in-Some.is c.in_ok-key.ensures) c.in_ok-take_colon.ensures (item_at c.in_ok-take_value.field-0 c.in_ok-value.value c.in_ok-value.was c.in_ok-take_value.ensures) in
    members_on (members_view new) taken (comma_at c.in_ok-take_part.field-0 c.if-not-branch.false c.in_ok-take_part.ensures)

pub take_value-returns-in_ok-take_elements-in-91 : goal.take_value-returns-in_ok-take_elements-in-91
take_value-returns-in_ok-take_elements-in-91 t c =
    let v = c.in_ok-take_elements-in-91.field-0 in
    taken_within kind.Array (array (refs_view v.items)) (ref.Array v) (view-Array v) (from_kept Stays c.in_default.ensures c.in_ok-c.ensures) c.in_ok-within-in-91.ensures.1 c.in_ok-take_elements-in-91.ensures

pub take_value-returns-in_ok-take_members-in-123 : goal.take_value-returns-in_ok-take_members-in-123
take_value-returns-in_ok-take_members-in-123 t c =
    let v = c.in_ok-take_members-in-123.field-0 in
    taken_within kind.Object (object (members_view v.items)) (ref.Object v) (view-Object v) (from_kept Stays c.in_default.ensures c.in_ok-c.ensures) c.in_ok-within-in-123.ensures.1 c.in_ok-take_members-in-123.ensures

pub take_value-returns-in_ok-close-in-93 : goal.take_value-returns-in_ok-close-in-93
take_value-returns-in_ok-close-in-93 t c = after_gap (from_kept Stays c.in_default.ensures c.in_ok-c.ensures) c.in_ok-close-in-93.ensures.taken

pub take_value-returns-in_ok-take_token-in_default-2 : goal.take_value-returns-in_ok-take_token-in_default-2
take_value-returns-in_ok-take_token-in_default-2 t c = after_gap (from_kept Stays c.in_default.ensures c.in_ok-c.ensures) c.in_ok-take_token-in_default-2.ensures
