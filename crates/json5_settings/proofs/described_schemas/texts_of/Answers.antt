use Rattle.std.proofs.Common.{◌∙◌, ap, get_or, sym, take}
use Rattle.std.proofs.lemmas.List.{take_more}
use Rattle.json5_types.specs.ValueMeanings.{items_view}
use Rattle.json5_de.specs.Convert.{names_bytes}
use Rattle.json5_settings.specs.DescribedSchemas.{texts_of}
use Rattle.json5_settings.proofs.FieldsAdded.{one_name_more}
use Rattle.json5_settings.proofs.described_schemas.texts_of.Goals as goal

pub loop-name-preserved : goal.loop-name-preserved
loop-name-preserved c =
    let l = c.loop-name in
    let names = c.args.names.now in
    let more = one_name_more (take l.name-index names) l.texts.items (get_or names l.name-index _) c.in_ok-text.text l.invariant c.in_ok-text.ensures.ok in
    ap items_view c.in_ok-push.ensures.items ∙ (more ∙ ap (λ ns. texts_of (names_bytes ns)) (sym (take_more names l.name-index _ c.loop-name-test.true)))
