use Rattle.std.proofs.Common.{ap, ◌∙◌, length}
use Rattle.json5_walk.specs.Walks.{Walked}
use Rattle.json5_walk.proofs.Calls.{counted}
use Rattle.json5_walk.proofs.walk.Walk.depth.Goals as goal

pub returns : goal.returns
returns c = counted c.self.inside.inner c.self.inside.outer.items c.open_count.ensures c.len.ensures.value ∙ ap (λ (v : Walked). length v.kinds) c.self.view_is
