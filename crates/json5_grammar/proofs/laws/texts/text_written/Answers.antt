use Rattle.json5_grammar.proofs.TextsWritten.{quoted_is, name_is, key_is}
use Rattle.json5_grammar.proofs.laws.texts.text_written.Goals as goal

pub returns-clause-texts : goal.returns-clause-texts
returns-clause-texts c = quoted_is

pub returns-clause-names : goal.returns-clause-names
returns-clause-names c = name_is

pub returns-clause-keys : goal.returns-clause-keys
returns-clause-keys c = key_is
