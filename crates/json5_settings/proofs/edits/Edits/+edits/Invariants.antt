use Rattle.std.proofs.Common.{◌+◌, ◌*◌}
use Rattle.json5_settings.proofs.edits.Edits.+edits.Given as goal

abbrev pub decreases-make : goal.decreases-make
decreases-make l = 3 * l.levels

abbrev pub decreases-make_at : goal.decreases-make_at
decreases-make_at l = 3 * l.levels + 1

abbrev pub decreases-make_members : goal.decreases-make_members
decreases-make_members l = 3 * l.levels + 2

abbrev pub decreases-make_elements : goal.decreases-make_elements
decreases-make_elements l = 3 * l.levels + 2
