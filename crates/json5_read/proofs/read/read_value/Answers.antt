use Rattle.json5_read.proofs.read.read_value.Goals as goal

pub take_value-requires : goal.take_value-requires
take_value-requires g c = let (before, inside) = c.offset-offset.ensures.suffix in record { before = before; inside = inside }

pub returns-in-Some : goal.returns-in-Some
returns-in-Some g c = c.in-Some.ensures

pub returns-in-None : goal.returns-in-None
returns-in-None g c = c.in-None.ensures
