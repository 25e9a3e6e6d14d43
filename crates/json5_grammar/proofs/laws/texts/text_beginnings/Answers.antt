use Rattle.std.proofs.Common.{◌++◌, ap, ◌∙◌, subst}
use Rattle.json5_grammar.specs.Faults.Tokens.{StringFault, NameFault}
use Rattle.json5_grammar.proofs.TextContinues.{string_before, name_before, string_hopeless, name_hopeless}
use Rattle.json5_grammar.proofs.laws.texts.text_beginnings.Goals as goal

pub returns-clause-strings : goal.returns-clause-strings
returns-clause-strings c = λ x b f. string_before f

pub returns-clause-names : goal.returns-clause-names
returns-clause-names c = λ x b f. name_before f

pub returns-clause-no_string : goal.returns-clause-no_string
returns-clause-no_string c = λ x s u z r escape_free b k a h. string_hopeless z r (subst (StringFault x b.code b.place b.before b.part) k.shown k.fault) a h

pub returns-clause-no_name : goal.returns-clause-no_name
returns-clause-no_name c = λ x s u z r escape_free b k a h.
    name_hopeless z a.first a.rest (subst (NameFault x b.code b.place b.before b.part) k.shown k.fault) a.is_name a.ends (h ∙ ap (λ y. s ++ y) a.split)
