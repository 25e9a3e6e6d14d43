use Rattle.std.proofs.Common.{[], refl, subst, sym, ◌∙◌, take, string_bytes, arith}
use Rattle.std.proofs.lemmas.List.{take_all}
use Rattle.json5_types.specs.ValueMeanings.{value_of}
use Rattle.json5_edit.proofs.Placed.{ok_then}
use Rattle.json5_edit.specs.Changes.{ChangesBy}
use Rattle.json5_edit_values.specs.News.{LeadsToObject, MergesFieldsInto}
use Rattle.json5_edit_values.proofs.MergesMade.{depth_of, depth_within, field_joined, field_merged, field_taken, fields_begun, fields_more, join_merged, join_plain, leads_empty, leads_still, leads_to, merged_in, merged_of, set_merged, set_plain}
use Rattle.json5_edit_values.proofs.patch.merging.+merged.Goals as goal

-- ---- merged

pub merged-returns-in_default : goal.merged-returns-in_default
merged-returns-in_default t c = ok_then c.set_at.result (λ made k. set_plain c.args.text.now (string_bytes made) c.args.steps.now c.args.patch.now (sym c.in_default.ensures) k) c.set_at.ensures

pub merged-returns-then-branch : goal.merged-returns-then-branch
merged-returns-then-branch t c =
    let there = subst (λ b. LeadsToObject b c.args.text.now c.args.steps.now) c.if-branch.true c.in_ok-is_object.ensures in
    ok_then c.merged_fields.result (λ made k. merged_in c.args.text.now (string_bytes made) c.args.steps.now c.args.patch.now c.in-Some.fields.now (sym c.in-Some.ensures) there k) (c.merged_fields.ensures (leads_to _ c.args.text.now c.args.steps.now there))

pub merged-returns : goal.merged-returns
merged-returns t c =
    let there = subst (λ b. LeadsToObject b c.args.text.now c.args.steps.now) c.if-branch.false c.in_ok-is_object.ensures in
    ok_then c.set_at-2.result (λ made k. set_merged c.args.text.now (string_bytes made) c.args.steps.now c.args.patch.now c.in-Some.fields.now c.in_ok-new.new (sym c.in-Some.ensures) there c.in_ok-new.ensures k) c.set_at-2.ensures

pub merged-merged_fields-requires : goal.merged-merged_fields-requires
merged-merged_fields-requires t c = let deep = depth_of (value_of c.args.patch.now) _ (sym c.in-Some.ensures) in omega (arith, deep)

pub merged-merged_anew-requires : goal.merged-merged_anew-requires
merged-merged_anew-requires t c = let deep = depth_of (value_of c.args.patch.now) _ (sym c.in-Some.ensures) in omega (arith, deep)

-- ---- merged_fields

pub merged_fields-loop-key-init : goal.merged_fields-loop-key-init
merged_fields-loop-key-init t c = λ leads. fields_begun c.args.text.now (string_bytes c.in_ok-made.made) c.args.steps.now leads c.in_ok-made.ensures.made

pub merged_fields-merged_field-requires : goal.merged_fields-merged_field-requires
merged_fields-merged_field-requires t c =
    let inside = depth_within c.args.fields.now c.loop-key.key-index c.loop-key-item.result c.loop-key-test.true c.loop-key-item.is in
    omega (arith, inside)

pub merged_fields-loop-key-preserved : goal.merged_fields-loop-key-preserved
merged_fields-loop-key-preserved t c = λ leads.
    let mid = subst (ChangesBy (MergesFieldsInto (take c.loop-key.key-index c.args.fields.now) c.args.steps.now) c.args.text.now) (sym c.as_str.ensures.value) (c.loop-key.invariant leads) in
    let still = leads_still _ c.args.text.now c.as_str.result.now c.args.steps.now mid in
    fields_more c.loop-key.key-index c.args.fields.now c.loop-key-item.result c.as_str-in-loop-key.result.now c.args.text.now c.as_str.result.now (string_bytes c.in_ok-made-2.made) c.args.steps.now c.loop-key-test.true c.loop-key-item.is c.as_str-in-loop-key.ensures.value c.as_str-in-loop-key.utf8 mid (c.in_ok-made-2.ensures still)

pub merged_fields-returns : goal.merged_fields-returns
merged_fields-returns t c = λ leads.
    subst (λ z. ChangesBy (MergesFieldsInto z c.args.steps.now) c.args.text.now (string_bytes c.loop-key.made)) (take_all c.loop-key.key-index c.args.fields.now c.loop-key-test.false) (c.loop-key.invariant leads)

-- ---- merged_field

pub merged_field-returns-then-is_null : goal.merged_field-returns-then-is_null
merged_field-returns-then-is_null t c = λ leads.
    ok_then c.taken_out.result (λ made k. field_taken c.args.value.now c.args.text.now (string_bytes made) c.args.steps.now c.as_slice.result.now c.args.key (c.as_slice.ensures.value ∙ c.in_ok-path.ensures) (sym c.is_null.ensures ∙ c.if-is_null.true) leads k) c.taken_out.ensures

pub merged_field-returns-then-branch : goal.merged_field-returns-then-branch
merged_field-returns-then-branch t c = λ leads.
    ok_then c.merged.result (λ made k. field_merged c.args.value.now c.args.text.now (string_bytes made) c.args.steps.now c.as_slice-then-branch.result.now c.args.key (c.as_slice-then-branch.ensures.value ∙ c.in_ok-path.ensures) (sym c.is_null.ensures ∙ c.if-is_null.false) leads k) c.merged.ensures

pub merged_field-returns : goal.merged_field-returns
merged_field-returns t c = λ _.
    ok_then c.joined.result (λ made k. field_joined c.args.value.now c.args.text.now (string_bytes made) c.args.key.now c.args.steps.now (sym c.is_null.ensures ∙ c.if-is_null.false) k) c.joined.ensures

-- ---- joined

pub joined-returns-in_default : goal.joined-returns-in_default
joined-returns-in_default t c =
    ok_then c.insert_at.result (λ made k. join_plain c.args.text.now (string_bytes made) c.args.steps.now c.args.value.now c.args.key.now (sym c.in_default.ensures) k) c.insert_at.ensures

pub joined-merged_anew-requires : goal.joined-merged_anew-requires
joined-merged_anew-requires t c = let deep = depth_of (value_of c.args.value.now) _ (sym c.in-Some.ensures) in omega (arith, deep)

pub joined-returns : goal.joined-returns
joined-returns t c =
    ok_then c.insert_at-2.result (λ made k. join_merged c.args.text.now (string_bytes made) c.args.steps.now c.args.value.now c.in-Some.fields.now c.in_ok-new.new c.args.key.now (sym c.in-Some.ensures) c.in_ok-new.ensures k) c.insert_at-2.ensures

-- ---- merged_anew

pub merged_anew-merged_fields-requires : goal.merged_anew-merged_fields-requires
merged_anew-merged_fields-requires t c = omega arith

pub merged_anew-returns-in-Ok : goal.merged_anew-returns-in-Ok
merged_anew-returns-in-Ok t c = merged_of c.args.fields.now _ c.as_str.result.now _ c.in-Ok.new refl refl (subst (ChangesBy (MergesFieldsInto c.args.fields.now []) _) (sym c.as_str.ensures.value) (c.in_ok-made.ensures (leads_empty _ _ refl refl))) c.in-Ok.ensures.sound
