use Rattle.std.proofs.Common.{[], ap, sym, ◌∙◌}
use Rattle.json5_walk.specs.Walks.{kinds_onto, kinds_in}
use Rattle.json5_walk.proofs.Calls.{kinds_push}
use Rattle.json5_walk.proofs.walk.keep_inner.Goals as goal

pub returns-in-Some : goal.returns-in-Some
returns-in-Some c = ap (kinds_onto []) c.push.ensures.items ∙ kinds_push [] c.args.outer.now.items c.in-Some.bracket ∙ sym (ap (λ i. kinds_in i c.args.outer.now.items) c.in-Some.is)
