use Rattle.json5_grammar.proofs.NumberFaultsRefused
use Rattle.json5_grammar.proofs.laws.numbers.one_number.Goals as goal

pub returns : goal.returns
returns c = λ s t r q n k a b f g e. NumberFaultsRefused.one_number a b f g e
