use Rattle.std.proofs.Common.{◌∙◌, ap, sym, refl, inl, inr, arith, string_bytes}
use Rattle.std.specs.Str.{chars}
use Rattle.json5_types.specs.ValueMeanings.{array, object, value_of, items_view, fields_view}
use Rattle.json5_types.proofs.ValuesCompared.{view-Array, view-Object}
use Rattle.json5_schema.proofs.Refusing.{by_each, by_keyword, by_member, by_reference, element_at, member_at}
use Rattle.json5_schema.proofs.references.+leads.Goals as goal

pub leads_on-returns-in-Object : goal.leads_on-returns-in-Object
leads_on-returns-in-Object t c = rw (c.in-Object.is, view-Object c.in-Object.keywords, ← c.deref.ensures.value) c.one_leads.ensures

pub one_leads-returns-then-leads_by : goal.one_leads-returns-then-leads_by
one_leads-returns-then-leads_by t c =
    let l = c.loop-name in
    λ e. by_keyword c.args.keywords.now l.name-index c.loop-name-item.result c.as_str.result.now c.args.text.now (omega (arith, c.loop-name-test.true)) c.loop-name-item.is c.as_str.ensures.value c.as_str.utf8 (c.leads_by.ensures c.if-leads_by.true)

pub some_leads-returns-then-leads_on : goal.some_leads-returns-then-leads_on
some_leads-returns-then-leads_on t c =
    let l = c.loop-schema in
    let x = c.schema-item.result in
    λ e. (value_of x, element_at c.args.schemas.now l.schema-index x (omega (arith, c.loop-schema-test.true)) c.schema-item.is, c.leads_on.ensures c.if-leads_on.true)

pub named_leads-returns-then-leads_on : goal.named_leads-returns-then-leads_on
named_leads-returns-then-leads_on t c =
    let l = c.loop-schema in
    let f = c.loop-schema-item.result in
    λ e. (value_of f.1, (chars (string_bytes f.0), member_at c.args.schemas.now l.schema-index f (omega (arith, c.loop-schema-test.true)) c.loop-schema-item.is), c.leads_on.ensures c.if-leads_on.true)

pub leads_by-returns-then-eq : goal.leads_by-returns-then-eq
leads_by-returns-then-eq t c =
    λ e. by_reference c.args.argument.now c.in-String.found c.as_str.result.now c.args.name.now c.args.text.now c.eq.result c.eq-then-eq.result c.in-String.is c.as_str.ensures.value c.eq.ensures c.eq-then-eq.ensures c.if-eq.true e

pub leads_by-returns-then-is_each : goal.leads_by-returns-then-is_each
leads_by-returns-then-is_each t c =
    let is = ap value_of c.in-Array.is ∙ (view-Array c.in-Array.schemas ∙ ap (λ z. array (items_view z)) (sym c.deref.ensures.value)) in
    λ e. by_each (value_of c.args.argument.now) (items_view c.deref.result.now) c.args.name.now c.args.text.now is (sym c.is_each.ensures ∙ c.if-is_each.true) (c.some_leads.ensures e)

pub leads_by-returns-in-Object : goal.leads_by-returns-in-Object
leads_by-returns-in-Object t c = λ e. inr (value_of c.args.argument.now, inl (sym c.is_alone.ensures ∙ c.if-is_alone.true, refl), c.leads_on.ensures e)

pub leads_by-returns-then-is_by_name : goal.leads_by-returns-then-is_by_name
leads_by-returns-then-is_by_name t c =
    let is = ap value_of c.in-Object-2.is ∙ (view-Object c.in-Object-2.schemas ∙ ap (λ z. object (fields_view z)) (sym c.deref-then-is_by_name.ensures.value)) in
    λ e. by_member (value_of c.args.argument.now) (fields_view c.deref-then-is_by_name.result.now) c.args.name.now c.args.text.now is (sym c.is_by_name.ensures ∙ c.if-is_by_name.true) (c.named_leads.ensures e)
