use Rattle.json5_de.proofs.ShortReads.{short_key}
use Rattle.json5_de.proofs.de.Deserializer.short_key.Goals as goal

pub returns : goal.returns
returns g c = short_key c.self.inside.scanner c.short_key.new.self c.self.inside.level c.self.inside.failed c.args.self.now c.short_key.result c.self.view_is c.if-self.false c.short_key.ensures
