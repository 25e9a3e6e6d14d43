use Rattle.std.proofs.Common.{◌++◌, ap, subst}
use Rattle.json5_grammar.specs.Faults.Tokens.{NameFault}
use Rattle.json5_grammar.proofs.StringsRead.{one_string_fault, no_string_fault}
use Rattle.json5_grammar.proofs.NamesRead.{one_name_fault, no_name_fault}
use Rattle.json5_grammar.proofs.laws.texts.one_text_fault.Goals as goal

pub returns-clause-strings : goal.returns-clause-strings
returns-clause-strings k = λ x b c. one_string_fault

pub returns-clause-names : goal.returns-clause-names
returns-clause-names k = λ x b c. one_name_fault

pub returns-clause-no_string : goal.returns-clause-no_string
returns-clause-no_string k = λ s u r escape_free b a f. no_string_fault r a f

pub returns-clause-no_name : goal.returns-clause-no_name
returns-clause-no_name k = λ s u r escape_free b a f.
    no_name_fault a.first a.rest a.is_name a.ends (subst (λ z. NameFault z b.code b.place b.before b.part b.shown) (ap (λ z. s ++ z) a.split) f)
