use Rattle.std.proofs.Common.{◌∙◌, ap, refl}
use Rattle.json5_types.specs.declared.value.Value as value
use Rattle.json5_types.specs.ValueMeanings.{items_view}
use Rattle.json5_types.proofs.ValuesCompared.{view-String}
use Rattle.json5_settings.proofs.FieldsAdded.{element_last}
use Rattle.json5_settings.proofs.described_fields.FieldSchemas.require.Goals as goal

pub returns-clause-adds : goal.returns-clause-adds
returns-clause-adds c = record {
  properties = refl;
  required = ap items_view c.in_ok-push.ensures.items ∙ (element_last _ (value.String c.in_ok-name.name) ∙ rw (view-String c.in_ok-name.name, c.in_ok-name.ensures.ok) refl);
}
