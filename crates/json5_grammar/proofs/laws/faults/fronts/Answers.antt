use Rattle.json5_grammar.proofs.BeforeFaults.{string_continues, name_continues}
use Rattle.json5_grammar.proofs.FrontsCommit.{front_commits}
use Rattle.json5_grammar.proofs.FrontsContinue.{front_begins}
use Rattle.json5_grammar.proofs.laws.faults.fronts.Goals as goal

pub returns-clause-begin : goal.returns-clause-begin
returns-clause-begin c = λ limit f r o a. front_begins

pub returns-clause-strings : goal.returns-clause-strings
returns-clause-strings c = string_continues

pub returns-clause-names : goal.returns-clause-names
returns-clause-names c = name_continues

pub returns-clause-commit : goal.returns-clause-commit
returns-clause-commit c = λ limit f r o a h z t. front_commits h z t
