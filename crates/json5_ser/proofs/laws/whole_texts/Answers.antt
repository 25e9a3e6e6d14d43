use Rattle.json5_write.proofs.WrittenDepths.{whole_exactly, too_deep_exactly}
use Rattle.json5_ser.proofs.laws.whole_texts.Goals as goal

pub returns : goal.returns
returns c = record { whole = whole_exactly; too_deep = too_deep_exactly }
