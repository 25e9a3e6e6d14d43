use Rattle.json5_write.proofs.PiecesWritten.{chars_null}
use Rattle.json5_serde_write.proofs.scalar.put_scalar.Goals as goal

pub returns-in-Null : goal.returns-in-Null
returns-in-Null c = rw c.in-Null.is (rw chars_null at c.put_piece.ensures)
