use Rattle.json5_settings.proofs.ListsSaid.{names_say}
use Rattle.json5_settings.proofs.described_laws.names_say.Goals as goal

pub returns : goal.returns
returns g c = λ names values texts long. names_say names values texts long
