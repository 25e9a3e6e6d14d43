use Rattle.std.proofs.Common.{◌-◌, length}
use Rattle.json5_lexemes.specs.Runs.{IsRun}
use Rattle.json5_lexemes.proofs.shared.last_shared.Given as goal

abbrev pub invariant-loop-i : goal.invariant-loop-i
invariant-loop-i l = IsRun l.run l.left l.right l.i

abbrev pub decreases-loop-i : goal.decreases-loop-i
decreases-loop-i l = length l.left - l.i
