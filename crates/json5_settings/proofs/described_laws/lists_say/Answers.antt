use Rattle.json5_settings.proofs.ListsSaid.{list_says, option_says}
use Rattle.json5_settings.proofs.described_laws.lists_say.Goals as goal

pub returns-clause-list : goal.returns-clause-list
returns-clause-list g c = λ kw says. list_says kw g.T.Deserialize.convert says

pub returns-clause-option : goal.returns-clause-option
returns-clause-option g c = λ kw says. option_says kw g.T.Deserialize.convert says
