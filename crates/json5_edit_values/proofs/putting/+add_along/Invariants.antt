use Rattle.std.proofs.Common.{◌-◌, length}
use Rattle.json5_edit_values.proofs.putting.+add_along.Given as goal

abbrev pub decreases-add_along : goal.decreases-add_along
decreases-add_along l = length l.path.now - l.count
