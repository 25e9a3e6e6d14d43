use Rattle.json5_settings.proofs.MapsSaid.{map_says}
use Rattle.json5_settings.proofs.described_maps.BTreeMapStringDescribed.keywords.Goals as goal

pub returns-clause-says : goal.returns-clause-says
returns-clause-says g c = map_says g.T.Described.keywords g.T.Deserialize.convert _ c.keywords.ensures.says
