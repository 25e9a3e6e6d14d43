use Rattle.json5_de.proofs.ShortReads.{short_string_owned}
use Rattle.json5_de.proofs.de.Deserializer.short_string_owned.Goals as goal

pub returns : goal.returns
returns g c = short_string_owned c.self.inside.scanner c.short_string_owned.new.self c.self.inside.level c.self.inside.failed c.args.self.now c.short_string_owned.result c.self.view_is c.self.invariant c.if-self.false c.short_string_owned.ensures
