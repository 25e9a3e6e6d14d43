use Rattle.std.proofs.Common.{rules}
use Rattle.json5_types.proofs.error.Error.from_text.Goals as goal

pub returns : goal.returns
returns c = search rules
