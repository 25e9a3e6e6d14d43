use Rattle.json5_de.specs.Convert.{text_of}
use Rattle.json5_settings.specs.DescribedSchemas.{text_schema}
use Rattle.json5_settings.proofs.FieldsSaid.{default_describes}
use Rattle.json5_settings.proofs.ValuesSaid.{text_says}
use Rattle.json5_settings.proofs.described_fields.WithDefaultTextDescribedFieldsString.describe.Goals as goal

pub returns-clause-says : goal.returns-clause-says
returns-clause-says g c = default_describes c.args.self.0.now text_schema text_of text_says c.args.self.1.now
