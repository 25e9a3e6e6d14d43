use Rattle.json5.proofs.MapsBack.{order_stays, turn_stays}
use Rattle.json5.proofs.laws.maps_read_back.Goals as goal

pub returns-clause-ordered : goal.returns-clause-ordered
returns-clause-ordered g c = order_stays g.K.DeserializeKey.content g.V.Deserialize.content g.K.Ord.cmp g.met.K.Ord.total

pub returns-clause-indexed : goal.returns-clause-indexed
returns-clause-indexed g c = turn_stays g.K.DeserializeKey.content g.V.Deserialize.content g.K.PartialEq.eq g.met.K.Eq.laws
