use Rattle.json5_de.proofs.de.Deserializer.deserialize_u16.Goals as goal

pub returns-in-Ok : goal.returns-in-Ok
returns-in-Ok g c = rw c.in_default.ensures.reads at c.in-Ok.ensures.reads

pub returns-in-Err : goal.returns-in-Err
returns-in-Err g c = rw c.in_default.ensures.reads at c.in-Err.ensures.reads
