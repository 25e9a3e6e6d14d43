use Rattle.std.proofs.Common.{rules}
use Rattle.json5_types.proofs.decimal.DecimalPartialEq.eq.Goals as goal

pub returns-then-eq : goal.returns-then-eq
returns-then-eq c = search rules
