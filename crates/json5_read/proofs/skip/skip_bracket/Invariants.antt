use Rattle.std.proofs.Common.{◌+◌, length}
use Rattle.json5_read.proofs.SkipTurns.{PassesWithin}
use Rattle.json5_read.proofs.skip.skip_bracket.Given as goal

abbrev pub invariant-loop-comma_due : goal.invariant-loop-comma_due
invariant-loop-comma_due g l = PassesWithin l.fn.room l.fn.outermost l.bracket l.brackets l.comma_due l.left l.fn.scanner l.scanner

abbrev pub decreases-loop-comma_due : goal.decreases-loop-comma_due
decreases-loop-comma_due g l = length l.scanner.unread + length l.scanner.unread + length l.brackets
