use Rattle.std.proofs.Common.{length}
use Rattle.json5_edit_values.proofs.patch.applying.+is_within.Given as goal

abbrev pub decreases-is_within : goal.decreases-is_within
decreases-is_within l = length l.outer.now
