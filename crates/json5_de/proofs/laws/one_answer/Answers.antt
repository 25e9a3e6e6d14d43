use Rattle.json5_de.proofs.WholeInputs.{same_answer}
use Rattle.json5_de.proofs.laws.one_answer.Goals as goal

pub returns : goal.returns
returns g c old new last v w a b = same_answer g.T.Deserialize.content g.T.Deserialize.convert old new last v w a b
