use Rattle.json5_write.proofs.ShortWritesJoined.{Puts-handed}
use Rattle.json5_ser.proofs.impls.printable.AnySerialize.serialize.Goals as goal

pub returns-in_err-print : goal.returns-in_err-print
returns-in_err-print g c = Puts-handed _ _ _ _ _ c.from_residual.ensures.1 c.in_err-print.ensures
