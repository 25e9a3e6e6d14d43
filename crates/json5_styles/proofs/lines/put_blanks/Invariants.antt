use Rattle.std.proofs.Common.{replicate}
use Rattle.json5_write.specs.Out.{piece}
use Rattle.json5_write.proofs.OutputsJoined.{Reaches}
use Rattle.json5_styles.specs.Blanks.{blank_of}
use Rattle.json5_styles.proofs.lines.put_blanks.Given as goal

abbrev pub invariant-loop-left : goal.invariant-loop-left
invariant-loop-left g l = Reaches (piece (replicate l.fn.count (blank_of l.fn.blank))) l.fn.printer l.printer (piece (replicate l.left (blank_of l.fn.blank)))

abbrev pub decreases-loop-left : goal.decreases-loop-left
decreases-loop-left g l = l.left
