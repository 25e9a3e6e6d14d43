use Rattle.std.proofs.Common.{rules}
use Rattle.json5_types.proofs.ErrorsCompared.{faults_same}
use Rattle.json5_types.proofs.error.ErrorPartialEq.eq.Goals as goal

pub returns-then-eq-clause-gives : goal.returns-then-eq-clause-gives
returns-then-eq-clause-gives c = search (rules, faults_same)

pub returns-then-eq-clause-same : goal.returns-then-eq-clause-same
returns-then-eq-clause-same c = search (rules, faults_same)
