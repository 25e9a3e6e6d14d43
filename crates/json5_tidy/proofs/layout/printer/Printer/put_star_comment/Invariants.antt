use Rattle.std.proofs.Common.{◌-◌, length}
use Rattle.json5_tidy.proofs.layout.printer.Printer.put_star_comment.Given as goal

abbrev pub decreases-loop-self : goal.decreases-loop-self
decreases-loop-self l = length l.text - l.at
