use Rattle.std.proofs.Common.{◌≡◌, ◌∙◌, ap, refl, subst, string_bytes}
use Rattle.std.specs.Str.{chars}
use Rattle.json5_grammar.specs.Language.Documents.{max_depth}
use Rattle.json5_styles.specs.LaidBack.{ReadsAs}
use Rattle.json5_styles.proofs.TextsBack.{json_back}
use Rattle.json5_types.specs.ValueMeanings.{fields_view, object, value_of}
use Rattle.json5_types.specs.declared.value.Value as value
use Rattle.json5_types.proofs.ValuesCompared.{view-Object, view-String}
use Rattle.json5_settings.specs.DescribedSchemas.{with_draft}
use Rattle.json5_settings.proofs.KeywordsPut.{if_ok_both, of_ok}
use Rattle.json5_settings.proofs.described_schemas.written.Goals as goal

pub returns-clause-made : goal.returns-clause-made
returns-clause-made c = λ kw is.
    let back = json_back _ _ _ c.to_json.ensures in
    let given = of_ok (λ made. fields_view made.items ≡ kw) _ _ c.in_ok-keywords.was is in
    let means : value_of (value.Object c.put_keyword.new.keywords) ≡ with_draft kw = view-Object c.put_keyword.new.keywords ∙ ap object (c.in_ok-put_keyword.ensures.put ∙ rw (view-String c.in_ok-draft.draft, c.in_ok-draft.ensures.ok, given) refl) in
    if_ok_both c.to_json.result back.0 back.1 (λ made json reads. record { json = json; reads = subst (λ x. ReadsAs max_depth (chars (string_bytes made)) x) means reads })
