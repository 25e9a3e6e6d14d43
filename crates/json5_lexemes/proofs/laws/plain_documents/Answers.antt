use Rattle.std.proofs.Common.{false}
use Rattle.json5_lexemes.proofs.JsonPlain.{json_text_plain}
use Rattle.json5_lexemes.proofs.PlainDocuments.{bare_document, commented_document, json_with_comments}
use Rattle.json5_lexemes.proofs.Stripped.{tokens_stay}
use Rattle.json5_lexemes.proofs.laws.plain_documents.Goals as goal

pub returns-clause-bare : goal.returns-clause-bare
returns-clause-bare c = bare_document

pub returns-clause-json : goal.returns-clause-json
returns-clause-json c = json_text_plain false

pub returns-clause-commented : goal.returns-clause-commented
returns-clause-commented c = commented_document

pub returns-clause-plain : goal.returns-clause-plain
returns-clause-plain c = json_with_comments

pub returns-clause-tokens : goal.returns-clause-tokens
returns-clause-tokens c = tokens_stay
