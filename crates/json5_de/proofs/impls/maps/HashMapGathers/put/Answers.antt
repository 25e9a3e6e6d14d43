use Rattle.json5_de.proofs.MapsHashed.{found_put}
use Rattle.json5_de.proofs.impls.maps.HashMapGathers.put.Goals as goal

pub returns-clause-put : goal.returns-clause-put
returns-clause-put g c ps found q = found_put g.met.K.Eq.laws c.args.self.now c.insert.new.self c.args.key c.args.value _ c.in_ok-insert.ensures.old c.in_ok-insert.ensures.entries c.insert.ensures.unique ps found q
