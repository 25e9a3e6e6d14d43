use Rattle.std.proofs.Common.{◌++◌, sym, subst}
use Rattle.json5_grammar.specs.Faults.Tokens.{StringFault, NameFault}
use Rattle.json5_grammar.proofs.TextFaultsRemain.{string_follows, name_follows}
use Rattle.json5_grammar.proofs.laws.texts.fault_stands.Goals as goal

pub returns-clause-strings : goal.returns-clause-strings
returns-clause-strings c = λ x z b k.
    subst (StringFault ((b.before ++ b.part) ++ z) b.code b.place b.before b.part) (sym k.shown) (string_follows z (subst (StringFault x b.code b.place b.before b.part) k.shown k.fault))

pub returns-clause-names : goal.returns-clause-names
returns-clause-names c = λ x z b k.
    subst (NameFault ((b.before ++ b.part) ++ z) b.code b.place b.before b.part) (sym k.shown) (name_follows z (subst (NameFault x b.code b.place b.before b.part) k.shown k.fault))
