use Rattle.std.proofs.Common.{◌≤◌, length}
use Rattle.json5_tidy.proofs.layout.lines.line_start.Given as goal

abbrev pub invariant-loop-start : goal.invariant-loop-start
invariant-loop-start l = l.start ≤ length l.text

abbrev pub decreases-loop-start : goal.decreases-loop-start
decreases-loop-start l = l.start
