use Rattle.json5_settings_types.proofs.ReadTypes.{list_back}
use Rattle.json5_settings_types.proofs.not_empty.lists_read_back.Goals as goal

pub returns : goal.returns
returns g c = λ vs some back. list_back g.T.Serialize.tree g.T.Deserialize.convert g.T.Deserialize.content vs some back
