use Rattle.json5_convert.specs.Sources.{KeepsStream}
use Rattle.json5_convert.proofs.streams.next_of.Given as goal

abbrev pub invariant-loop : goal.invariant-loop
invariant-loop g l = KeepsStream l.fn.source l.source
