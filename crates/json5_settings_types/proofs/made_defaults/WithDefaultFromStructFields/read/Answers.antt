use Rattle.json5_settings_types.proofs.FieldsMade.{tries_so}
use Rattle.json5_settings_types.proofs.made_defaults.WithDefaultFromStructFields.read.Goals as goal

pub returns-clause-tries : goal.returns-clause-tries
returns-clause-tries g c = tries_so _ _ _ _ _ _ _ _ _ _ _ _ _ _ c.read.result c.read.ensures.tries
