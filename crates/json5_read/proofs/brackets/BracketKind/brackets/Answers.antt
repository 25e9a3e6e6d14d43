use Rattle.std.proofs.Common.{rules}
use Rattle.json5_read.proofs.brackets.BracketKind.brackets.Goals as goal

pub returns-in-Array : goal.returns-in-Array
returns-in-Array c = search rules
