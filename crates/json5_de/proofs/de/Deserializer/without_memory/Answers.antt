use Rattle.json5_de.proofs.TokenKinds.{gives_up}
use Rattle.json5_de.proofs.de.Deserializer.without_memory.Goals as goal

pub returns : goal.returns
returns g c = rw c.refuse.ensures.result (record { kind = c.new.ensures.kind; place = c.new.ensures.place }, gives_up c.args.self.now c.refuse.new.self c.refuse.ensures.state)
