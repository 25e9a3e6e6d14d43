use Rattle.std.proofs.Common.{rules}
use Rattle.json5_types.proofs.decimal.DecimalHash.hash.Goals as goal

pub returns-in-Infinite : goal.returns-in-Infinite
returns-in-Infinite g c = search rules

pub returns-in-NotANumber : goal.returns-in-NotANumber
returns-in-NotANumber g c = search rules

pub returns-in-Finite : goal.returns-in-Finite
returns-in-Finite g c = search rules
