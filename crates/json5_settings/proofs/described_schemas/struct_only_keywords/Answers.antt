use Rattle.std.proofs.Common.{◌∙◌, false, refl}
use Rattle.json5_settings.proofs.FieldsSaid.{fitting_struct}
use Rattle.json5_settings.proofs.KeywordsPut.{view-Bool}
use Rattle.json5_settings.proofs.SlipsSeen.{if_ok_then}
use Rattle.json5_settings.proofs.described_schemas.struct_only_keywords.Goals as goal

pub returns-clause-made : goal.returns-clause-made
returns-clause-made g c = c.with_members.ensures.made.0 _ (if_ok_then c.keyword_alone-no_others.result c.keyword_alone-no_others.ensures.made (λ made is. is ∙ rw (view-Bool false) refl))

pub returns-clause-says : goal.returns-clause-says
returns-clause-says g c = fitting_struct (g.F.StructFields.layout (g.F.StructFields.shape c.args.fields)) g.F.DescribedFields.kinds c.requires c.with_members.ensures.describes
