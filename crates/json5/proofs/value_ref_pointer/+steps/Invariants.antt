use Rattle.std.proofs.Common.{length}
use Rattle.json5.proofs.value_ref_pointer.+steps.Given as goal

abbrev pub decreases-steps : goal.decreases-steps
decreases-steps l = length l.path.now
