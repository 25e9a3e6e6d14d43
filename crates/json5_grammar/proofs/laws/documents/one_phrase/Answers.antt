use Rattle.json5_grammar.proofs.OneTree.{one_phrase}
use Rattle.json5_grammar.proofs.laws.documents.one_phrase.Goals as goal

pub returns : goal.returns
returns c = one_phrase
