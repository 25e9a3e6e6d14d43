use Rattle.json5_grammar.proofs.TextOrFault.{string_judged, name_judged}
use Rattle.json5_grammar.proofs.laws.texts.text_or_fault.Goals as goal

pub returns-clause-strings : goal.returns-clause-strings
returns-clause-strings c = string_judged

pub returns-clause-names : goal.returns-clause-names
returns-clause-names c = name_judged
