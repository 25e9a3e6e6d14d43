use Rattle.json5_settings.proofs.DocumentsSound.{says_of_texts}
use Rattle.json5_settings.proofs.described_laws.schemas_say.Goals as goal

pub returns : goal.returns
returns g c = λ kw says. says_of_texts kw g.T.Deserialize.convert says
