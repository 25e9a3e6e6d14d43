use Rattle.json5_grammar.proofs.DocumentOrFault.{value_or_fault, no_value_fault, anywhere}
use Rattle.json5_grammar.proofs.laws.faults.value_or_fault.Goals as goal

pub returns-clause-judged : goal.returns-clause-judged
returns-clause-judged c = value_or_fault

pub returns-clause-refused : goal.returns-clause-refused
returns-clause-refused c = λ limit x b. no_value_fault

pub returns-clause-whole : goal.returns-clause-whole
returns-clause-whole c = λ limit x b. anywhere
