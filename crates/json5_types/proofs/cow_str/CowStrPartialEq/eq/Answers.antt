use Rattle.std.proofs.Common.{rules}
use Rattle.json5_types.proofs.cow_str.CowStrPartialEq.eq.Goals as goal

pub returns-clause-gives : goal.returns-clause-gives
returns-clause-gives c = search rules

pub returns-clause-same : goal.returns-clause-same
returns-clause-same c = search rules
