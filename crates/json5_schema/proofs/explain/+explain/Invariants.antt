-- What falls from call to call where it is gone into a schema.
use Rattle.std.proofs.Common.{◌+◌, ◌*◌}
use Rattle.json5_schema.proofs.explain.+explain.Given as goal

abbrev pub decreases-explain : goal.decreases-explain
decreases-explain l = 4 * l.depth + 0

abbrev pub decreases-explain_chosen : goal.decreases-explain_chosen
decreases-explain_chosen l = 4 * l.depth + 1

abbrev pub decreases-explain_branches : goal.decreases-explain_branches
decreases-explain_branches l = 4 * l.depth + 1

abbrev pub decreases-explain_names : goal.decreases-explain_names
decreases-explain_names l = 4 * l.depth + 2

abbrev pub decreases-explain_part : goal.decreases-explain_part
decreases-explain_part l = 4 * l.depth + 1

abbrev pub decreases-explain_parts : goal.decreases-explain_parts
decreases-explain_parts l = 4 * l.depth + 2

abbrev pub decreases-explain_keyword : goal.decreases-explain_keyword
decreases-explain_keyword l = 4 * l.depth + 3
