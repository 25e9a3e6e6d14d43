use Rattle.std.proofs.Common.{◌+◌, ◌*◌}
use Rattle.json5_settings.proofs.WarningsTold.{Looked}
use Rattle.json5_settings.proofs.warned.+look.Given as goal

abbrev pub decreases-look : goal.decreases-look
decreases-look l = 2 * l.levels + 1

abbrev pub decreases-look_into : goal.decreases-look_into
decreases-look_into l = 2 * l.levels

abbrev pub invariant-look_into-loop : goal.invariant-look_into-loop
invariant-look_into-loop l = Looked l.fn.kind l.fn.walk l.walk l.fn.found.items l.found.items l.keys
