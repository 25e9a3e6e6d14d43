use Rattle.std.proofs.Common.{◌++◌, sym, subst}
use Rattle.json5_grammar.specs.Faults.Tokens.{NumberFault}
use Rattle.json5_grammar.proofs.NumberFaultsRefused.{one_fault, no_fault}
use Rattle.json5_grammar.proofs.NumberFaultsRemain.{part_rest, whatever_follows}
use Rattle.json5_grammar.proofs.NumberFaultParts.{part_of}
use Rattle.json5_grammar.proofs.laws.numbers.one_number_fault.Goals as goal

pub returns-clause-same : goal.returns-clause-same
returns-clause-same c = λ x b d f g. one_fault f.1 g.1

pub returns-clause-refused : goal.returns-clause-refused
returns-clause-refused c = λ x s r n b f i a st. no_fault r f.1 i a st

pub returns-clause-front : goal.returns-clause-front
returns-clause-front c = λ x b f. part_rest f.1

pub returns-clause-part : goal.returns-clause-part
returns-clause-part c = λ x b f. part_of f.1

pub returns-clause-follows : goal.returns-clause-follows
returns-clause-follows c = λ x z b k.
    let stands = whatever_follows z (subst (NumberFault x b.code b.place b.part) k.shown k.fault.1) in
    (k.fault.0, subst (λ t. NumberFault ((t ++ b.part) ++ z) b.code b.place b.part b.shown) (sym k.fault.0) (subst (NumberFault (b.part ++ z) b.code b.place b.part) (sym k.shown) stands))
