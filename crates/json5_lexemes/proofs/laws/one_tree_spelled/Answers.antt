use Rattle.json5_lexemes.proofs.SameTrees.{one_tree_spelled}
use Rattle.json5_lexemes.proofs.laws.one_tree_spelled.Goals as goal

pub returns : goal.returns
returns c = one_tree_spelled
