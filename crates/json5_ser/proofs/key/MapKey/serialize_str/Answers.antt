use Rattle.json5_write.proofs.ShortWritesJoined.{Puts-handed}
use Rattle.json5_ser.proofs.key.MapKey.serialize_str.Goals as goal

pub returns-in_err-put_key : goal.returns-in_err-put_key
returns-in_err-put_key g c = Puts-handed _ _ _ _ _ c.from_residual.ensures.1 (rw c.ser.view_is at c.in_err-put_key.ensures)
