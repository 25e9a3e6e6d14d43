use Rattle.json5_settings.proofs.MapsSaid.{map_says}
use Rattle.json5_settings.proofs.described_laws.maps_say.Goals as goal

pub returns-clause-ordered : goal.returns-clause-ordered
returns-clause-ordered g c = λ kw says. map_says kw g.T.Deserialize.convert _ says

pub returns-clause-indexed : goal.returns-clause-indexed
returns-clause-indexed g c = λ kw says. map_says kw g.T.Deserialize.convert _ says

pub returns-clause-hashed : goal.returns-clause-hashed
returns-clause-hashed g c = λ kw says. map_says kw g.T.Deserialize.convert _ says
