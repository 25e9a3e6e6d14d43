use Rattle.json5_de.specs.Maps.{in_key_order, in_insertion_order, found_in}
use Rattle.json5_de.proofs.MapsRead.{holds}
use Rattle.json5_de.proofs.laws.map_contents.Goals as goal

pub returns-clause-ordered : goal.returns-clause-ordered
returns-clause-ordered g c = holds g.K.DeserializeKey.content g.K.Ord.cmp g.K.DeserializeKey.convert g.V.Deserialize.convert _ (λ test ps. in_key_order test ps)

pub returns-clause-indexed : goal.returns-clause-indexed
returns-clause-indexed g c = holds g.K.DeserializeKey.content g.K.PartialEq.eq g.K.DeserializeKey.convert g.V.Deserialize.convert _ (λ test ps. in_insertion_order test ps)

pub returns-clause-hashed : goal.returns-clause-hashed
returns-clause-hashed g c = holds g.K.DeserializeKey.content g.K.PartialEq.eq g.K.DeserializeKey.convert g.V.Deserialize.convert _ (λ test ps q. found_in (test (g.K.DeserializeKey.content q)) ps)
