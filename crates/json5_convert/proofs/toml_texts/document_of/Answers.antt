use Rattle.std.proofs.Common.{◌≡◌, ap, sym, ◌∙◌, inl, inr}
use Rattle.json5_types.specs.ValueMeanings.{value_of, object, fields_view}
use Rattle.json5_types.proofs.ValuesCompared.{view-Object}
use Rattle.toml.specs.View.{table_view}
use Rattle.json5_convert.proofs.TomlDates.{own_document}
use Rattle.json5_convert.proofs.TomlHeld.{document, document_members, document_data, either_way}
use Rattle.json5_convert.proofs.toml_texts.document_of.Goals as goal

pub returns-in-Ok : goal.returns-in-Ok
returns-in-Ok c =
    let x = value_of c.args.value.now in
    let fs = fields_view c.deref.result.now in
    let is : x ≡ object fs = ap value_of c.in-Object.is ∙ view-Object c.in-Object.fields ∙ ap (λ l. object (fields_view l)) (sym c.deref.ensures.value) in
    let dates = c.args.dates in
    let held = document dates x fs is (sym c.fits.ensures ∙ c.if-not-fits.false) c.in-Ok.ensures.0 in
    either_way c.text_of.result
    (λ made reads. record { held = held; members = table_view c.in-Ok.table; means = document_data dates x fs (table_view c.in-Ok.table) is c.in-Ok.ensures.1; own = own_document dates x fs (table_view c.in-Ok.table) is c.in-Ok.ensures.0 c.in-Ok.ensures.1; reads_back = reads })
    (λ e lacks. inl lacks)
    c.text_of.ensures

pub returns-in-Err : goal.returns-in-Err
returns-in-Err c =
    let x = value_of c.args.value.now in
    let fs = fields_view c.deref.result.now in
    let is : x ≡ object fs = ap value_of c.in-Object.is ∙ view-Object c.in-Object.fields ∙ ap (λ l. object (fields_view l)) (sym c.deref.ensures.value) in
    elim c.into_error.ensures [
      | inl lacks ↦ inl lacks
      | inr other ↦ inr (λ d. c.in-Err.ensures other (document_members c.args.dates x fs is d))
    ]
