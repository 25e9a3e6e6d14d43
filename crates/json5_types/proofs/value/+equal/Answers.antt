use Rattle.std.proofs.Common.{◌≡◌, false, rules, sym, ◌∙◌}
use Rattle.json5_types.specs.ValueMeanings.{fields_view}
use Rattle.json5_types.specs.ValueEquality.{fields_eq}
use Rattle.json5_types.specs.declared.value.Value.{the_lemmas}
use Rattle.json5_types.proofs.ValuesCompared.{bytes_or_characters, other_length, other_count, other_name, view-Object}
use Rattle.json5_types.proofs.value.+equal.Goals as goal

pub equal-returns-in-String-String : goal.equal-returns-in-String-String
equal-returns-in-String-String t c = search (rules, the_lemmas, bytes_or_characters)

pub equal-returns-in-Object-Object : goal.equal-returns-in-Object-Object
equal-returns-in-Object-Object t c =
    let w = c.in-Object-Object in
    rw (w.is-0, w.is-1, view-Object w.fields, view-Object w.others, ← c.deref-in-Object-Object.ensures.value, ← c.deref-in-Object-Object-2.ensures.value) c.equal_fields.ensures

pub equal_fields-returns-then-fields-others : goal.equal_fields-returns-then-fields-others
equal_fields-returns-then-fields-others t c = sym (other_count c.args.fields.now c.args.others.now c.if-fields-others.true)

pub equal_items-returns-then-items-others : goal.equal_items-returns-then-items-others
equal_items-returns-then-items-others t c = sym (other_length c.args.items.now c.args.others.now c.if-items-others.true)

pub equal_fields-returns-then-ne : goal.equal_fields-returns-then-ne
equal_fields-returns-then-ne t c =
    let f = c.in-Some.field.now in
    let g = c.in-Some.other.now in
    let differ : fields_eq (fields_view c.loop-field.field-iterator.a.rest.now) (fields_view c.loop-field.field-iterator.b.rest.now) ≡ false = other_name c.next.new.self.a.rest.now c.next.new.self.b.rest.now f g _ _ c.as_str.result.now c.as_str-in-loop-field.result.now (c.in-Some.ensures.steps.0) (c.in-Some.ensures.steps.1) c.as_str.utf8 c.as_str-in-loop-field.utf8 c.as_str.ensures.value c.as_str-in-loop-field.ensures.value (sym c.ne.ensures ∙ c.if-ne.true) in
    sym differ ∙ c.loop-field.invariant.0
