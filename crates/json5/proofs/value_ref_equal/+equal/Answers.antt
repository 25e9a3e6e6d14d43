use Rattle.std.proofs.Common.{◌≡◌, false, rules, sym, ◌∙◌}
use Rattle.json5_types.specs.ValueMeanings.{fields_view}
use Rattle.json5.specs.ValueRefs.{members_view}
use Rattle.json5_types.specs.ValueEquality.{fields_eq}
use Rattle.json5_types.specs.declared.value.Value.{the_lemmas as owned_lemmas}
use Rattle.json5.specs.declared.value_ref.ValueRef.{the_lemmas}
use Rattle.json5_types.proofs.ValuesCompared.{bytes_or_characters, view-Object as owned-Object}
use Rattle.json5.proofs.RefsCompared.{other_length, other_count, other_name}
use Rattle.json5.proofs.RefsCopied.{view-Object}
use Rattle.json5.proofs.value_ref_equal.+equal.Goals as goal

pub equal-returns-in-String-String : goal.equal-returns-in-String-String
equal-returns-in-String-String t c = search (rules, the_lemmas, owned_lemmas, bytes_or_characters)

pub equal-returns-in-Object-Object : goal.equal-returns-in-Object-Object
equal-returns-in-Object-Object t c =
    let w = c.in-Object-Object in
    rw (w.is-0, w.is-1, view-Object w.members, owned-Object w.fields, ← c.deref-in-Object-Object.ensures.value, ← c.deref-in-Object-Object-2.ensures.value) c.equal_members.ensures

pub equal_members-returns-then-members-fields : goal.equal_members-returns-then-members-fields
equal_members-returns-then-members-fields t c = sym (other_count c.args.members.now c.args.fields.now c.if-members-fields.true)

pub equal_items-returns-then-items-others : goal.equal_items-returns-then-items-others
equal_items-returns-then-items-others t c = sym (other_length c.args.items.now c.args.others.now c.if-items-others.true)

pub equal_members-returns-then-ne : goal.equal_members-returns-then-ne
equal_members-returns-then-ne t c =
    let f = c.in-Some.member.now in
    let g = c.in-Some.field.now in
    let differ : fields_eq (members_view c.loop-member.member-iterator.a.rest.now) (fields_view c.loop-member.member-iterator.b.rest.now) ≡ false = other_name c.next.new.self.a.rest.now c.next.new.self.b.rest.now f g _ _ c.as_str.result.now c.as_str-in-loop-member.result.now (c.in-Some.ensures.steps.0) (c.in-Some.ensures.steps.1) c.as_str.utf8 c.as_str-in-loop-member.utf8 c.as_str.ensures c.as_str-in-loop-member.ensures.value (sym c.ne.ensures ∙ c.if-ne.true) in
    sym differ ∙ c.loop-member.invariant.0
