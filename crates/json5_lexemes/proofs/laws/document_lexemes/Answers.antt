use Rattle.json5_lexemes.proofs.SameTrees.{document_has_lexemes, document_spells}
use Rattle.json5_lexemes.proofs.laws.document_lexemes.Goals as goal

pub returns-clause-exist : goal.returns-clause-exist
returns-clause-exist c = document_has_lexemes

pub returns-clause-spell : goal.returns-clause-spell
returns-clause-spell c = document_spells
