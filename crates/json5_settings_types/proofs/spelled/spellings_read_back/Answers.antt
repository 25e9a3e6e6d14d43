use Rattle.json5_settings_types.proofs.ReadTypes.{spelling_back}
use Rattle.json5_settings_types.proofs.spelled.spellings_read_back.Goals as goal

pub returns : goal.returns
returns g c = spelling_back g.T.Spelled.spells
