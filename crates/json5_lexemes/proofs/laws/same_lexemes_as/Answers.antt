use Rattle.json5_lexemes.proofs.SameTrees.{document_same}
use Rattle.json5_lexemes.proofs.SettledLists.{same_lexemes_swapped, same_lexemes_through}
use Rattle.json5_lexemes.proofs.laws.same_lexemes_as.Goals as goal

pub returns-clause-itself : goal.returns-clause-itself
returns-clause-itself c = document_same

pub returns-clause-swapped : goal.returns-clause-swapped
returns-clause-swapped c = same_lexemes_swapped

pub returns-clause-through : goal.returns-clause-through
returns-clause-through c = same_lexemes_through
