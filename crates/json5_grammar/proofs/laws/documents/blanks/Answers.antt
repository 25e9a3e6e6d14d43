use Rattle.json5_grammar.proofs.BlanksSound.{blanks_judged, one_blank_fault, no_blank_fault}
use Rattle.json5_grammar.proofs.laws.documents.blanks.Goals as goal

pub returns-clause-judged : goal.returns-clause-judged
returns-clause-judged c = blanks_judged

pub returns-clause-same : goal.returns-clause-same
returns-clause-same c = λ x b d. one_blank_fault

pub returns-clause-refused : goal.returns-clause-refused
returns-clause-refused c = λ w r b g s f. no_blank_fault g s f
