use Rattle.json5_settings.proofs.WordsParted.{word_alone, word_first}
use Rattle.json5_settings.proofs.names.split_word.Goals as goal

pub returns-in-Some : goal.returns-in-Some
returns-in-Some c = word_first c.args.name.now c.in-Some.word.now c.in-Some.others c.in-Some.ensures.cases

pub returns-in-None : goal.returns-in-None
returns-in-None c = word_alone c.args.name.now c.in-None.ensures.cases
