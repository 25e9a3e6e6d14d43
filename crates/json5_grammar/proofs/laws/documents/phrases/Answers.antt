use Rattle.json5_grammar.proofs.OneTree.{document_phrase, phrase_document}
use Rattle.json5_grammar.proofs.laws.documents.phrases.Goals as goal

pub returns-clause-of_document : goal.returns-clause-of_document
returns-clause-of_document c = document_phrase

pub returns-clause-to_document : goal.returns-clause-to_document
returns-clause-to_document c = phrase_document
