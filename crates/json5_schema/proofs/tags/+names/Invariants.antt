-- What falls from call to call where it is gone into a schema.
use Rattle.std.proofs.Common.{◌+◌, ◌*◌}
use Rattle.json5_schema.proofs.tags.+names.Given as goal

abbrev pub decreases-names_member : goal.decreases-names_member
decreases-names_member l = 2 * l.depth + 0

abbrev pub decreases-one_names : goal.decreases-one_names
decreases-one_names l = 2 * l.depth + 1
