use Rattle.json5_grammar.proofs.KeysRead
use Rattle.json5_grammar.proofs.laws.texts.one_key.Goals as goal

pub returns : goal.returns
returns k = λ s u t v r y p q a b e. KeysRead.one_key a b e
