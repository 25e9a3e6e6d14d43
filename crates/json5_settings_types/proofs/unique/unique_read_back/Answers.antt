use Rattle.json5_settings_types.proofs.ReadTypes.{without_twins_back}
use Rattle.json5_settings_types.proofs.unique.unique_read_back.Goals as goal

pub returns : goal.returns
returns g c = λ vs differ back. without_twins_back g.T.TellsApart.same g.T.Serialize.tree g.T.TellsApart.means g.T.TellsApart.meaning vs differ back
