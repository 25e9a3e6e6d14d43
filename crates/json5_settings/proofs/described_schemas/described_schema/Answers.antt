use Rattle.json5_settings.proofs.DocumentsSound.{says_of_texts}
use Rattle.json5_settings.proofs.described_schemas.described_schema.Goals as goal

pub returns-clause-says : goal.returns-clause-says
returns-clause-says g c = says_of_texts g.T.Described.keywords g.T.Deserialize.convert c.keywords.ensures.says
