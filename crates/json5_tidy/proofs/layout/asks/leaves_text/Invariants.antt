use Rattle.std.proofs.Common.{◌-◌, length}
use Rattle.json5_tidy.proofs.layout.asks.leaves_text.Given as goal

abbrev pub decreases-loop-next : goal.decreases-loop-next
decreases-loop-next l = length l.bytes - l.at
