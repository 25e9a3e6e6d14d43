use Rattle.json5_de.proofs.ShortReads.{short_integer}
use Rattle.json5_de.proofs.de.Deserializer.short_integer.Goals as goal

pub returns-clause-reads : goal.returns-clause-reads
returns-clause-reads g c =
    short_integer c.self.inside.scanner c.short_whole.new.self c.self.inside.level c.self.inside.failed c.args.self.now c.args.max c.short_whole.result c.self.view_is c.self.invariant c.if-self.false c.ranges.max c.short_whole.ensures
