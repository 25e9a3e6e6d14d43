use Rattle.json5_de.proofs.ShortReads.{short_decimal}
use Rattle.json5_de.proofs.de.Deserializer.short_decimal.Goals as goal

pub returns : goal.returns
returns g c =
    short_decimal c.self.inside.scanner c.short_decimal.new.self c.self.inside.level c.self.inside.failed c.args.self.now c.short_decimal.result c.self.view_is c.self.invariant c.if-self.false c.short_decimal.ensures
