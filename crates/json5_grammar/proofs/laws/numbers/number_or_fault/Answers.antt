use Rattle.json5_grammar.proofs.NumberOrFault.{judged}
use Rattle.json5_grammar.proofs.laws.numbers.number_or_fault.Goals as goal

pub returns : goal.returns
returns c = judged
