use Rattle.json5_grammar.proofs.ObjectsRead.{object_front, object_reads}
use Rattle.json5_grammar.proofs.laws.collections.object_from_front.Goals as goal

pub returns-clause-apart : goal.returns-clause-apart
returns-clause-apart c = object_front

pub returns-clause-together : goal.returns-clause-together
returns-clause-together c = object_reads
