use Rattle.std.proofs.Common.{rules}
use Rattle.std.specs.Str.{chars}
use Rattle.json5_tokens.proofs.char.escape.Goals as goal

pub returns-in-34-clause-none : goal.returns-in-34-clause-none
returns-in-34-clause-none c = search rules

pub returns-in-34-clause-some : goal.returns-in-34-clause-some
unfolding chars
returns-in-34-clause-some c = search rules

pub returns-in_default-clause-none : goal.returns-in_default-clause-none
returns-in_default-clause-none c = search rules
