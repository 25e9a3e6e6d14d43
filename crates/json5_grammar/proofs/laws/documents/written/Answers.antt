use Rattle.json5_grammar.specs.Language.Values.{is_null}
use Rattle.json5_grammar.proofs.ScalarsWritten.{boolean_value, number_value, text_value}
use Rattle.json5_grammar.proofs.laws.documents.written.Goals as goal

pub returns-clause-null : goal.returns-clause-null
returns-clause-null c = is_null

pub returns-clause-boolean : goal.returns-clause-boolean
returns-clause-boolean c = boolean_value

pub returns-clause-number : goal.returns-clause-number
returns-clause-number c = number_value

pub returns-clause-text : goal.returns-clause-text
returns-clause-text c = text_value
