use Rattle.std.proofs.Common.{◌-◌, length}
use Rattle.json5_tidy.proofs.layout.entries.is_in_rows.Given as goal

abbrev pub decreases-loop-words : goal.decreases-loop-words
decreases-loop-words l = length l.bytes - l.at
