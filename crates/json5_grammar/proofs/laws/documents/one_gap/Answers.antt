use Rattle.json5_grammar.proofs.BlanksSound.{one_gap, gap_before, gap_last}
use Rattle.json5_grammar.proofs.laws.documents.one_gap.Goals as goal

pub returns-clause-any : goal.returns-clause-any
returns-clause-any c = one_gap

pub returns-clause-before : goal.returns-clause-before
returns-clause-before c = gap_before

pub returns-clause-last : goal.returns-clause-last
returns-clause-last c = gap_last
