use Rattle.std.proofs.Common.{◌++◌, ap, sym, ◌∙◌}
use Rattle.json5_grammar.proofs.StringsRead.{one_string}
use Rattle.json5_grammar.proofs.NamesRead.{one_name}
use Rattle.json5_grammar.proofs.laws.texts.one_text.Goals as goal

pub returns-clause-strings : goal.returns-clause-strings
returns-clause-strings k = λ s u t v r y p q a b e. one_string r y a b e

pub returns-clause-names : goal.returns-clause-names
returns-clause-names k = λ s u t v r y p q a b e.
    let one = one_name a.first b.first a.rest b.rest a.is_name a.ends b.is_name b.ends (sym (ap (λ z. s ++ z) a.split) ∙ e ∙ ap (λ z. t ++ z) b.split) in
    (one.0, one.1, one.2, a.split ∙ one.3 ∙ sym b.split)
