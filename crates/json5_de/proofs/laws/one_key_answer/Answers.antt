use Rattle.json5_de.proofs.FoundKeys.{same_key}
use Rattle.json5_de.proofs.laws.one_key_answer.Goals as goal

pub returns : goal.returns
returns g c old new last v w a b = same_key g.K.DeserializeKey.content g.K.DeserializeKey.convert old new last v w a b
