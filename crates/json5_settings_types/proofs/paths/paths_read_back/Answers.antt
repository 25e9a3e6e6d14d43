use Rattle.json5_settings_types.proofs.ReadTypes.{path_back}
use Rattle.json5_settings_types.proofs.paths.paths_read_back.Goals as goal

pub returns : goal.returns
returns c = path_back
