use Rattle.std.proofs.Common.{◌+◌, ◌*◌, length}
use Rattle.json5_edit.proofs.Seeks.{Passed}
use Rattle.json5_edit.proofs.places.+seek.Given as goal

abbrev pub decreases-seek : goal.decreases-seek
decreases-seek l = 3 * length l.path.now

abbrev pub decreases-seek_entry : goal.decreases-seek_entry
decreases-seek_entry l = 3 * length l.path.now + 2

abbrev pub invariant-seek_entry-loop-count : goal.invariant-seek_entry-loop-count
invariant-seek_entry-loop-count l = Passed l.fn.step l.fn.path l.fn.walk l.walk l.count
