use Rattle.json5_lexemes.proofs.SameTrees.{same_tree, same_document}
use Rattle.json5_lexemes.proofs.laws.same_trees.Goals as goal

pub returns-clause-tree : goal.returns-clause-tree
returns-clause-tree c = same_tree

pub returns-clause-document : goal.returns-clause-document
returns-clause-document c = same_document
