use Rattle.json5_convert.specs.Sources.{KeepsStream}
use Rattle.json5_convert.proofs.sources.Source.read_on.Given as goal

abbrev pub invariant-loop : goal.invariant-loop
invariant-loop g l = KeepsStream l.fn.self l.self
