use Rattle.json5.proofs.ReadsBack.{list_back, some_back}
use Rattle.json5.proofs.laws.members_read_back.Goals as goal

pub returns-clause-list : goal.returns-clause-list
returns-clause-list g c = list_back g.T.Serialize.tree g.T.Deserialize.convert g.T.Deserialize.content

pub returns-clause-some : goal.returns-clause-some
returns-clause-some g c v n h = some_back g.T.Serialize.tree g.T.Deserialize.convert g.T.Deserialize.content v n h
