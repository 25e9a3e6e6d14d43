use Rattle.json5_grammar.proofs.WordsRead.{word_judged, one_word_fault, no_word_fault}
use Rattle.json5_grammar.proofs.laws.documents.words.Goals as goal

pub returns-clause-judged : goal.returns-clause-judged
returns-clause-judged c = word_judged

pub returns-clause-same : goal.returns-clause-same
returns-clause-same c = λ x b d f g. one_word_fault f.1 g.1

pub returns-clause-refused : goal.returns-clause-refused
returns-clause-refused c = λ w r wrong eof b k f. no_word_fault r k f.1
