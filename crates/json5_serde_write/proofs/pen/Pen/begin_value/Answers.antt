use Rattle.json5_serde_write.proofs.Pens.{line_begun}
use Rattle.json5_serde_write.proofs.pen.Pen.begin_value.Goals as goal

pub invariant_of-self-2 : goal.invariant_of-self-2
invariant_of-self-2 c = line_begun c.self.inside.inner c.self.inside.outer.items _ c.if-not-is_innermost.ensures c.if-self.false c.self.invariant c.in_ok-start_line.ensures
