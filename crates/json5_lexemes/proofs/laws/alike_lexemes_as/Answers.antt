use Rattle.json5_lexemes.proofs.SameLists.{same_lists}
use Rattle.json5_lexemes.proofs.SameTrees.{alike_tree, same_alike}
use Rattle.json5_lexemes.proofs.laws.alike_lexemes_as.Goals as goal

pub returns-clause-same : goal.returns-clause-same
returns-clause-same c = same_lists

pub returns-clause-alike : goal.returns-clause-alike
returns-clause-alike c = same_alike

pub returns-clause-tree : goal.returns-clause-tree
returns-clause-tree c = alike_tree
