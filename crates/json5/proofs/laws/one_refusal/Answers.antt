use Rattle.json5.proofs.DocumentReads.{one_fault, no_fault}
use Rattle.json5.proofs.laws.one_refusal.Goals as goal

pub returns-clause-same : goal.returns-clause-same
returns-clause-same c = one_fault

pub returns-clause-none : goal.returns-clause-none
returns-clause-none c = no_fault
