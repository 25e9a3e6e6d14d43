use Rattle.json5_types.specs.ValueMeanings.{fields_view}
use Rattle.std.proofs.Common.{◌≡◌, ◌∙◌, refl}
use Rattle.json5_types.proofs.ValuesCompared.{view-Array, view-Object}
use Rattle.json5_settings.proofs.KeywordsPut.{of_ok}
use Rattle.json5_settings.proofs.SlipsSeen.{if_ok_then}
use Rattle.json5_settings.proofs.described_values.null_or.Goals as goal

pub returns-clause-made : goal.returns-clause-made
returns-clause-made c = λ kw is.
    let given = of_ok (λ made. fields_view made.items ≡ kw) _ _ c.in_ok-some.was is in
    if_ok_then c.keyword_alone.result c.keyword_alone.ensures.made (λ made made_is. made_is ∙ rw (view-Array c.in_ok-schemas.schemas, c.in_ok-schemas.ensures.made, view-Object c.in_ok-null.null, view-Object c.in_ok-some.some, c.in_ok-null.ensures.made, given) refl)
