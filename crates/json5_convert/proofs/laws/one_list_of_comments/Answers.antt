use Rattle.json5_convert.proofs.OneComments.{document_has_comments, one_comments}
use Rattle.json5_convert.proofs.laws.one_list_of_comments.Goals as goal

pub returns-clause-one : goal.returns-clause-one
returns-clause-one c = λ x l m a b. one_comments a b

pub returns-clause-exists : goal.returns-clause-exists
returns-clause-exists c = document_has_comments
