use Rattle.std.proofs.Common.{Some, ap, ◌∙◌}
use Rattle.json5_write.specs.Writes.{fresh_within}
use Rattle.json5_serde_write.proofs.Pens.{started}
use Rattle.json5_serde_write.proofs.pen.Pen.new.Goals as goal

pub invariant_of-result : goal.invariant_of-result
invariant_of-result c = rw c.new-2.ensures.items (started c.args.limit c.within.result (c.within.ensures ∙ ap (λ w. fresh_within c.args.limit (Some w)) c.new.ensures))
