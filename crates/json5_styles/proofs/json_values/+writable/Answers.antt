use Rattle.std.proofs.Common.{◌<◌, ◌≤◌, length, drop_of_length-le, sym, ap, ◌∙◌, rules}
use Rattle.json5_types.proofs.ValuesCompared.{view-Array, view-Object}
use Rattle.json5_types.specs.ValueLookups.{items_depth, fields_depth}
use Rattle.json5_types.specs.ValueMeanings.{items_view, fields_view}
use Rattle.json5_styles.specs.JsonTexts.{items_are_json, fields_are_json}
use Rattle.json5_styles.specs.Writable.{is_spelled}
use Rattle.json5_styles.proofs.WritableLists.{items_writable, fields_writable, next_item, next_field, kept, lost, none_left, one_more, plain_array}
use Rattle.json5_styles.proofs.json_values.+writable.Goals as goal

pub is_writable-returns-in-Object : goal.is_writable-returns-in-Object
is_writable-returns-in-Object t c = rw (c.in-Object.is, view-Object c.in-Object.fields, ← c.deref-in-Object.ensures.value) c.fields_are_writable.ensures

pub is_writable-returns-then-are_plain : goal.is_writable-returns-then-are_plain
is_writable-returns-then-are_plain t c =
    rw (c.in-Array.is, view-Array c.in-Array.items, ← c.deref.ensures.value)
    (c.is_some.ensures ∙ plain_array c.args.spelling c.args.room c.inside.result (items_view c.deref.result.now) c.inside.ensures (sym c.are_plain.ensures ∙ c.if-are_plain.true))

pub items_are_writable-loop-item-preserved : goal.items_are_writable-loop-item-preserved
items_are_writable-loop-item-preserved t c =
    let l = c.loop-item in
    let left : l.item-index < length c.args.items.now = search rules in
    let next = next_item c.args.spelling c.in-Some.left c.args.items.now l.item-index c.item-item.result left c.item-item.is in
    kept _ _ _ next (sym c.is_writable.ensures ∙ c.if-not-is_writable.false) ∙ l.invariant

pub items_are_writable-returns-then-not-is_writable : goal.items_are_writable-returns-then-not-is_writable
items_are_writable-returns-then-not-is_writable t c =
    let l = c.loop-item in
    let xs = items_view c.args.items.now in
    let left : l.item-index < length c.args.items.now = search rules in
    let next = next_item c.args.spelling c.in-Some.left c.args.items.now l.item-index c.item-item.result left c.item-item.is in
    let whole = one_more c.args.room c.in-Some.left (items_depth xs) (is_spelled c.args.spelling (items_are_json xs)) c.in-Some.ensures in
    sym (whole ∙ sym l.invariant ∙ lost _ _ _ next (sym c.is_writable.ensures ∙ c.if-not-is_writable.true))

pub items_are_writable-returns : goal.items_are_writable-returns
items_are_writable-returns t c =
    let l = c.loop-item in
    let xs = items_view c.args.items.now in
    let none : length c.args.items.now ≤ l.item-index = search rules in
    let whole = one_more c.args.room c.in-Some.left (items_depth xs) (is_spelled c.args.spelling (items_are_json xs)) c.in-Some.ensures in
    let last = ap (λ x. items_writable c.args.spelling c.in-Some.left (items_view x)) (drop_of_length-le c.args.items.now none) in
    sym (whole ∙ sym l.invariant ∙ last ∙ none_left c.args.spelling c.in-Some.left)

pub fields_are_writable-loop-value-preserved : goal.fields_are_writable-loop-value-preserved
fields_are_writable-loop-value-preserved t c =
    let l = c.loop-value in
    let left : l.value-index < length c.args.fields.now = search rules in
    let next = next_field c.args.spelling c.in-Some.left c.args.fields.now l.value-index c.loop-value-item.result left c.loop-value-item.is in
    kept _ _ _ next (sym c.is_writable.ensures ∙ c.if-not-is_writable.false) ∙ l.invariant

pub fields_are_writable-returns-then-not-is_writable : goal.fields_are_writable-returns-then-not-is_writable
fields_are_writable-returns-then-not-is_writable t c =
    let l = c.loop-value in
    let fs = fields_view c.args.fields.now in
    let left : l.value-index < length c.args.fields.now = search rules in
    let next = next_field c.args.spelling c.in-Some.left c.args.fields.now l.value-index c.loop-value-item.result left c.loop-value-item.is in
    let whole = one_more c.args.room c.in-Some.left (fields_depth fs) (is_spelled c.args.spelling (fields_are_json fs)) c.in-Some.ensures in
    sym (whole ∙ sym l.invariant ∙ lost _ _ _ next (sym c.is_writable.ensures ∙ c.if-not-is_writable.true))

pub fields_are_writable-returns : goal.fields_are_writable-returns
fields_are_writable-returns t c =
    let l = c.loop-value in
    let fs = fields_view c.args.fields.now in
    let none : length c.args.fields.now ≤ l.value-index = search rules in
    let whole = one_more c.args.room c.in-Some.left (fields_depth fs) (is_spelled c.args.spelling (fields_are_json fs)) c.in-Some.ensures in
    let last = ap (λ x. fields_writable c.args.spelling c.in-Some.left (fields_view x)) (drop_of_length-le c.args.fields.now none) in
    sym (whole ∙ sym l.invariant ∙ last ∙ none_left c.args.spelling c.in-Some.left)
