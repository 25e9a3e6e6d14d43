use Rattle.rows.proofs.own_enums.ESerialize.serialize.Goals as goal

pub returns-in-W : goal.returns-in-W
returns-in-W g c = rw c.in-W.is c.write_w.ensures
