use Rattle.std.proofs.Common.{rules, ◌≡◌, ◌∙◌, refl}
use Rattle.json5_types.specs.ValueMeanings.{fields_view}
use Rattle.json5_types.proofs.ValuesCompared.{view-Array, view-Object}
use Rattle.json5_settings.proofs.KeywordsPut.{of_ok}
use Rattle.json5_settings.proofs.SlipsSeen.{if_ok_then}
use Rattle.json5_settings.proofs.described_schemas.put_members.Goals as goal

pub returns : goal.returns
returns c =
    record {
      made = (
        λ kw is.
            let given = of_ok (λ made. fields_view made.items ≡ kw) _ _ c.in_ok-keywords.was is in
            if_ok_then c.with_kind.result c.with_kind.ensures.made (λ made made_is. made_is
            ∙ rw (c.in_ok-put_keyword-2.ensures.put, view-Object c.args.schemas.properties, c.in_ok-put_keyword.ensures.put, view-Array c.args.schemas.required, given) refl),
        search rules,
      );
    }
