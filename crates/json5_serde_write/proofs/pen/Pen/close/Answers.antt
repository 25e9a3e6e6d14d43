use Rattle.json5_serde_write.proofs.Pens.{closed}
use Rattle.json5_serde_write.proofs.pen.Pen.close.Goals as goal

pub invariant_of-self-2 : goal.invariant_of-self-2
invariant_of-self-2 c = closed c.self.inside.inner c.pop-self-inside.result c.args.brackets c.self.inside.outer.items _ _ c.if-self.false c.if-not-is_innermost.ensures c.pop-self-inside.ensures.items c.self.invariant c.in_ok-close_brackets.ensures
