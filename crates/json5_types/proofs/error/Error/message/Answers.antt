use Rattle.std.proofs.Common.{rules}
use Rattle.json5_types.proofs.error.Error.message.Goals as goal

pub returns-in-Custom : goal.returns-in-Custom
returns-in-Custom c = search rules
