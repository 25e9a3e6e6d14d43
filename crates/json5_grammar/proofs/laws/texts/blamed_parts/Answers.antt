use Rattle.json5_grammar.proofs.TextFaultParts.{string_part, name_part}
use Rattle.json5_grammar.proofs.laws.texts.blamed_parts.Goals as goal

pub returns-clause-strings : goal.returns-clause-strings
returns-clause-strings c = λ x b f. string_part f

pub returns-clause-names : goal.returns-clause-names
returns-clause-names c = λ x b f. name_part f
