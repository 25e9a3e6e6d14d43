use Rattle.std.proofs.Common.{◌∙◌}
use Rattle.json5_serde_write.proofs.Pens.{opened}
use Rattle.json5_serde_write.proofs.pen.Pen.open.Goals as goal

pub invariant_of-self-2 : goal.invariant_of-self-2
invariant_of-self-2 c = opened c.self.inside.inner c.args.brackets c.self.inside.outer.items c.keep_inner.new.outer.items _ (c.self.view_is ∙ c.in_ok-begin_value.ensures) c.in_ok-keep_inner.ensures.kept c.self.invariant c.in_ok-open_brackets.ensures.opens c.in_ok-open_brackets.ensures.deeper
