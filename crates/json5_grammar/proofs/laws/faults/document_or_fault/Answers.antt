use Rattle.json5_grammar.proofs.DocumentOrFault.{document_or_fault, no_fault, one_fault}
use Rattle.json5_grammar.proofs.laws.faults.document_or_fault.Goals as goal

pub returns-clause-judged : goal.returns-clause-judged
returns-clause-judged c = document_or_fault

pub returns-clause-same : goal.returns-clause-same
returns-clause-same c = λ limit x b d. one_fault

pub returns-clause-refused : goal.returns-clause-refused
returns-clause-refused c = λ limit x b d f. no_fault d.0 d.1 f
