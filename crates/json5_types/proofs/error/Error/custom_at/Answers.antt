use Rattle.std.proofs.Common.{rules}
use Rattle.json5_types.proofs.error.Error.custom_at.Goals as goal

pub returns : goal.returns
returns g c = search rules
