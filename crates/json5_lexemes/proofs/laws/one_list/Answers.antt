use Rattle.json5_lexemes.proofs.OneList.{one_list}
use Rattle.json5_lexemes.proofs.SettledLists.{one_token_list, settled_list}
use Rattle.json5_lexemes.proofs.laws.one_list.Goals as goal

pub returns-clause-lexemes : goal.returns-clause-lexemes
returns-clause-lexemes c = one_list

pub returns-clause-tokens : goal.returns-clause-tokens
returns-clause-tokens c = one_token_list

pub returns-clause-settled : goal.returns-clause-settled
returns-clause-settled c = settled_list
