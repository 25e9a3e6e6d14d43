use Rattle.json5_grammar.proofs.ArraysRead.{array_front, array_reads}
use Rattle.json5_grammar.proofs.laws.collections.array_from_front.Goals as goal

pub returns-clause-apart : goal.returns-clause-apart
returns-clause-apart c = array_front

pub returns-clause-together : goal.returns-clause-together
returns-clause-together c = array_reads
