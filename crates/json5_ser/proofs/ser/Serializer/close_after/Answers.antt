use Rattle.json5_write.proofs.ShortWritesJoined.{Puts-handed}
use Rattle.json5_ser.proofs.ser.Serializer.close_after.Goals as goal

pub returns-in_err-close_brackets : goal.returns-in_err-close_brackets
returns-in_err-close_brackets g c = Puts-handed _ _ _ _ _ c.from_residual.ensures.1 (rw c.self.view_is at c.in_err-close_brackets.ensures)
