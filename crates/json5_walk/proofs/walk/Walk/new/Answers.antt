use Rattle.json5_walk.proofs.Calls.{starts}
use Rattle.json5_walk.proofs.walk.Walk.new.Goals as goal

pub invariant_of-result : goal.invariant_of-result
invariant_of-result c = (rw (c.new.ensures, c.new-2.ensures, c.from.ensures) (starts c.utf8.text c.get.ensures.bound), c.new-2.ensures)
