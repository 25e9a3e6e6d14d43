use Rattle.std.proofs.Common.{◌-◌, length}
use Rattle.json5_tidy.proofs.layout.on_line.put_in_line.Given as goal

abbrev pub decreases-loop-measure : goal.decreases-loop-measure
decreases-loop-measure l = length l.bytes - l.at
