use Rattle.std.proofs.Common.{◌-◌, length}
use Rattle.json5_tidy.proofs.layout.entries.has_entry.Given as goal

abbrev pub decreases-loop-from : goal.decreases-loop-from
decreases-loop-from l = length l.bytes - l.at
