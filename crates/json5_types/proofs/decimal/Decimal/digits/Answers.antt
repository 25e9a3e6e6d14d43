use Rattle.std.proofs.Common.{rules}
use Rattle.json5_types.proofs.decimal.Decimal.digits.Goals as goal

pub returns-in-Finite : goal.returns-in-Finite
returns-in-Finite c = search rules
