use Rattle.std.proofs.Common.{chars}
use Rattle.json5_write.specs.WrittenTrees.{named}
use Rattle.json5_write.proofs.PiecesWritten.{chars_colon_space}
use Rattle.json5_serde_write.proofs.Pens.{key_written}
use Rattle.json5_serde_write.proofs.pen.Pen.key.Goals as goal

pub invariant_of-self-2 : goal.invariant_of-self-2
invariant_of-self-2 c = key_written c.self.inside.inner c.self.inside.outer.items (named (chars c.args.text.now)) _ _ _ c.if-not-is_innermost.ensures c.if-self.false c.self.invariant c.in_ok-start_line.ensures c.in_ok-put_key.ensures (rw chars_colon_space at c.in_ok-put_piece.ensures)
