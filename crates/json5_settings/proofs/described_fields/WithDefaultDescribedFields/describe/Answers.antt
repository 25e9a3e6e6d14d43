use Rattle.json5_settings.proofs.FieldsSaid.{default_describes}
use Rattle.json5_settings.proofs.described_fields.WithDefaultDescribedFields.describe.Goals as goal

pub returns-clause-says : goal.returns-clause-says
returns-clause-says g c = default_describes c.args.self.0.now g.T.Described.keywords g.T.Deserialize.convert c.add.ensures.says (g.T.Deserialize.content c.args.self.1)
