use Rattle.json5_settings_types.proofs.KeysOnce.{keys_back}
use Rattle.json5_settings_types.proofs.unique_keys.unique_keys_read_back.Goals as goal

pub returns : goal.returns
returns g c = λ es differ back. keys_back g.V.Serialize.tree g.V.Deserialize.convert g.V.Deserialize.content es differ back
