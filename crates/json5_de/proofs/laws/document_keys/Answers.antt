use Rattle.json5_de.specs.Convert.{unit_of, bool_of, unsigned_below, signed_below, decimal_of}
use Rattle.json5_de.proofs.KeyDocuments.{converts_documents}
use Rattle.json5_de.proofs.laws.document_keys.Goals as goal

pub returns-clause-null : goal.returns-clause-null
returns-clause-null c = converts_documents unit_of

pub returns-clause-boolean : goal.returns-clause-boolean
returns-clause-boolean c = converts_documents bool_of

pub returns-clause-natural : goal.returns-clause-natural
returns-clause-natural c bound = converts_documents (unsigned_below bound)

pub returns-clause-integer : goal.returns-clause-integer
returns-clause-integer c bound = converts_documents (signed_below bound)

pub returns-clause-decimal : goal.returns-clause-decimal
returns-clause-decimal c = converts_documents decimal_of
