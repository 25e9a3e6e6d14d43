use Rattle.std.proofs.Common.{sym}
use Rattle.json5_walk.proofs.Calls.{unmarks, keeps_unmarked}
use Rattle.json5_walk.proofs.walk.Walk.unmark.Goals as goal

pub invariant_of-self : goal.invariant_of-self
invariant_of-self c = (keeps_unmarked c.self.invariant.0 unmarks, c.self.invariant.1)

pub returns : goal.returns
returns c = rw (sym c.self.view_is) unmarks
