use Rattle.std.proofs.Common.{length}
use Rattle.json5_styles.specs.JsonEscapes.{StandsBefore}
use Rattle.json5_styles.proofs.strings.split_at_escaped.Given as goal

abbrev pub invariant-loop-c : goal.invariant-loop-c
invariant-loop-c l = StandsBefore l.initial.text l.rest

abbrev pub decreases-loop-c : goal.decreases-loop-c
decreases-loop-c l = length l.rest
