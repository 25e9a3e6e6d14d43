use Rattle.std.proofs.Common.{rules}
use Rattle.json5_types.proofs.error.Error.with_position.Goals as goal

pub returns-in-Some : goal.returns-in-Some
returns-in-Some c = search rules
