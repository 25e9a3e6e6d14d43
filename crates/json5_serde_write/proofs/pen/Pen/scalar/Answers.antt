use Rattle.std.proofs.Common.{◌∙◌}
use Rattle.json5_serde_write.specs.Scalars.{scalar_tree}
use Rattle.json5_serde_write.proofs.Pens.{value_written}
use Rattle.json5_serde_write.proofs.pen.Pen.scalar.Goals as goal

pub invariant_of-self-2 : goal.invariant_of-self-2
invariant_of-self-2 c = value_written (scalar_tree c.args.scalar) _ (c.self.view_is ∙ c.in_ok-begin_value.ensures) c.self.invariant c.in_ok-put_scalar.ensures
