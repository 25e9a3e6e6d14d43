use Rattle.std.proofs.Common.{◌+◌, ◌*◌}
use Rattle.cli_check.proofs.places.+seek.Given as goal

abbrev pub decreases-seek : goal.decreases-seek
decreases-seek l = 2 * l.levels

abbrev pub decreases-seek_entries : goal.decreases-seek_entries
decreases-seek_entries l = 2 * l.levels + 1
