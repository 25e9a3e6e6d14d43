use Rattle.json5_grammar.proofs.ScalarsWritten.{null_document, boolean_document, number_document, text_document, alone}
use Rattle.json5_grammar.proofs.laws.documents.written_alone.Goals as goal

pub returns-clause-null : goal.returns-clause-null
returns-clause-null c = null_document

pub returns-clause-boolean : goal.returns-clause-boolean
returns-clause-boolean c = boolean_document

pub returns-clause-number : goal.returns-clause-number
returns-clause-number c = number_document

pub returns-clause-text : goal.returns-clause-text
returns-clause-text c = text_document

pub returns-clause-value : goal.returns-clause-value
returns-clause-value c = alone
