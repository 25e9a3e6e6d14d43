use Rattle.json5_grammar.proofs.OneTree.{one_tree}
use Rattle.json5_grammar.proofs.laws.documents.one_tree.Goals as goal

pub returns : goal.returns
returns c = one_tree
