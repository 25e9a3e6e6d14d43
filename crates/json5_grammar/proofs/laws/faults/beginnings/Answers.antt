use Rattle.std.proofs.Common.{subst}
use Rattle.json5_grammar.specs.Faults.{Fault}
use Rattle.json5_grammar.proofs.BeforeFaults.{fault_begins}
use Rattle.json5_grammar.proofs.FaultsRemain.{hopeless}
use Rattle.json5_grammar.proofs.laws.faults.beginnings.Goals as goal

pub returns-clause-before : goal.returns-clause-before
returns-clause-before c = λ limit x b. fault_begins

pub returns-clause-through : goal.returns-clause-through
returns-clause-through c = λ limit x b k. hopeless (subst (Fault limit x b.code b.place b.before b.part) k.shown k.fault)
