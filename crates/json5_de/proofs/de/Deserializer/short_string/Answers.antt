use Rattle.json5_de.proofs.ShortReads.{short_text}
use Rattle.json5_de.proofs.de.Deserializer.short_string.Goals as goal

pub returns : goal.returns
returns g c = short_text c.self.inside.scanner c.short_string.new.self c.self.inside.level c.self.inside.failed c.args.self.now c.short_string.result c.self.view_is c.self.invariant c.if-self.false c.short_string.ensures
