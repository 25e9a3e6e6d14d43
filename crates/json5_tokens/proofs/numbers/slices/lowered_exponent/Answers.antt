use Rattle.std.proofs.Common.{rules}
use Rattle.json5_tokens.proofs.numbers.slices.lowered_exponent.Goals as goal

pub returns-clause-value : goal.returns-clause-value
returns-clause-value c = search rules

pub returns-clause-small : goal.returns-clause-small
returns-clause-small c = search rules
