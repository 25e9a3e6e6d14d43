use Rattle.json5_grammar.proofs.OneTree.{one_front}
use Rattle.json5_grammar.proofs.laws.documents.one_front.Goals as goal

pub returns : goal.returns
returns c = one_front
