use Rattle.json5_settings.proofs.FieldsSaid.{required_describes}
use Rattle.json5_settings.proofs.described_fields.RequiredDescribedFields.describe.Goals as goal

pub returns-clause-says : goal.returns-clause-says
returns-clause-says g c = required_describes c.args.self.0.now g.T.Described.keywords g.T.Deserialize.convert c.add.ensures.says
