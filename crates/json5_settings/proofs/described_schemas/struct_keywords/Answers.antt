use Rattle.std.proofs.Common.{ap}
use Rattle.json5_types.specs.ValueMeanings.{fields_view, no_field}
use Rattle.json5_settings.proofs.FieldsSaid.{fitting_open}
use Rattle.json5_settings.proofs.described_schemas.struct_keywords.Goals as goal

pub returns-clause-made : goal.returns-clause-made
returns-clause-made g c = c.with_members.ensures.made.0 no_field (ap fields_view c.new.ensures.items)

pub returns-clause-says : goal.returns-clause-says
returns-clause-says g c = fitting_open (g.F.StructFields.layout (g.F.StructFields.shape c.args.fields)) g.F.DescribedFields.kinds c.requires c.with_members.ensures.describes
