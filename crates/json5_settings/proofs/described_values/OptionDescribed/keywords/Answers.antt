use Rattle.json5_settings.proofs.ListsSaid.{option_says}
use Rattle.json5_settings.proofs.described_values.OptionDescribed.keywords.Goals as goal

pub returns-clause-says : goal.returns-clause-says
returns-clause-says g c = option_says g.T.Described.keywords g.T.Deserialize.convert c.keywords.ensures.says
