use Rattle.json5_write.proofs.ShortWritesJoined.{Puts-handed}
use Rattle.json5_ser.proofs.ser.Serializer.put.Goals as goal

pub returns-in-Err : goal.returns-in-Err
returns-in-Err g c = Puts-handed _ _ _ c.in-Err.refused _ c.refusal.ensures (rw (c.in-Err.is, c.self.view_is) at c.put_piece.ensures)
