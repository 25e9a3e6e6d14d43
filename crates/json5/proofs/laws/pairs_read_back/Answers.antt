use Rattle.json5.proofs.ReadsBack.{pairs_back}
use Rattle.json5.proofs.laws.pairs_read_back.Goals as goal

pub returns : goal.returns
returns g c = pairs_back g.K.SerializeKey.as_key g.K.DeserializeKey.convert g.K.DeserializeKey.content g.V.Serialize.tree g.V.Deserialize.convert g.V.Deserialize.content
