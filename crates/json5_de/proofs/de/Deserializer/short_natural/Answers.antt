use Rattle.json5_de.proofs.ShortReads.{short_natural}
use Rattle.json5_de.proofs.de.Deserializer.short_natural.Goals as goal

pub returns-clause-reads : goal.returns-clause-reads
returns-clause-reads g c =
    short_natural c.self.inside.scanner c.short_whole.new.self c.self.inside.level c.self.inside.failed c.args.self.now c.args.max c.from.result c.in_ok-number.number c.self.view_is c.self.invariant c.if-self.false c.ranges.max.fits c.from.ensures
    c.in_ok-number.ensures
