use Rattle.json5_settings_types.proofs.NamesTaken.{tries_by_names}
use Rattle.json5_settings_types.proofs.renamed.RenamedOrStructFields.read.Goals as goal

pub returns-clause-tries : goal.returns-clause-tries
returns-clause-tries g c = tries_by_names _ _ _ _ _ _ _ _ _ _ _ _ _ _ c.read.result c.read.ensures.tries
