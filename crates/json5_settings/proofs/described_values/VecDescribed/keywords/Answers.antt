use Rattle.json5_settings.proofs.ListsSaid.{list_says}
use Rattle.json5_settings.proofs.described_values.VecDescribed.keywords.Goals as goal

pub returns-clause-says : goal.returns-clause-says
returns-clause-says g c = list_says g.T.Described.keywords g.T.Deserialize.convert c.keywords.ensures.says
