use Rattle.std.proofs.Common.{subst, arith}
use Rattle.std.proofs.lemmas.Result.{MatchResult-weaker}
use Rattle.json5_types.specs.ValueMeanings.{value_of, fields_view}
use Rattle.json5_types.proofs.ValuesCompared.{view-Object}
use Rattle.json5_schema.specs.CanonicalForms.{AddsForm}
use Rattle.json5_schema.proofs.FormSteps.{first_member, next_member, text_added}
use Rattle.json5_schema.proofs.canonical.+push_value.Goals as goal

pub forms_by_name-loop-name-init : goal.forms_by_name-loop-name-init
forms_by_name-loop-name-init t c = first_member c.new-forms.result.entries (fields_view c.args.members.now) c.new-forms.ensures.empty

pub forms_by_name-loop-name-preserved : goal.forms_by_name-loop-name-preserved
forms_by_name-loop-name-preserved t c =
    let l = c.loop-name in
    let f = c.loop-name-item.result in
    let made = subst (λ bytes. AddsForm bytes c.push_value.new.form.items (value_of f.1)) c.new-form.ensures.items c.in_ok-push_value.ensures in
    next_member l.forms.entries c.insert.new.self.entries c.args.members.now l.name-index f c.as_str.result c.push_value.new.form (omega (arith, c.loop-name-test.true)) c.loop-name-item.is c.in_ok-insert.ensures.entries c.as_str.ensures.value c.as_str.utf8 made l.invariant

pub push_value-returns-in-String : goal.push_value-returns-in-String
push_value-returns-in-String t c =
    MatchResult-weaker c.push_text.result c.push_text.ensures (λ _ h. text_added c.args.form.now.items c.push_text.new.form.items c.args.value.now c.in-String.text c.as_str.result.now c.in-String.is c.as_str.ensures.value c.as_str.utf8 h) (λ _ lacks. lacks)

pub push_value-returns-in-Object : goal.push_value-returns-in-Object
push_value-returns-in-Object t c =
    rw (c.in-Object.is, view-Object c.in-Object.members, ← c.deref-in-Object.ensures.value) c.push_object.ensures
