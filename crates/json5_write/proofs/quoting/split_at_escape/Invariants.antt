use Rattle.std.proofs.Common.{length}
use Rattle.json5_write.specs.Quotes.{delimiter}
use Rattle.json5_write.specs.Escaping.{WritesAsIs}
use Rattle.json5_write.proofs.quoting.split_at_escape.Given as goal

abbrev pub invariant-loop-c : goal.invariant-loop-c
invariant-loop-c l = WritesAsIs (delimiter l.fn.quote) l.initial.text l.rest

abbrev pub decreases-loop-c : goal.decreases-loop-c
decreases-loop-c l = length l.rest
