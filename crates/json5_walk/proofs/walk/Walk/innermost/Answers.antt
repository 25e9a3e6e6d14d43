use Rattle.std.proofs.Common.{sym}
use Rattle.json5_walk.proofs.Refused.{inner_of}
use Rattle.json5_walk.proofs.walk.Walk.innermost.Goals as goal

pub returns : goal.returns
returns c = rw (sym c.self.view_is) (inner_of c.self.inside.inner c.self.inside.outer.items c.self.invariant.1)
