use Rattle.json5_write.proofs.ReadBack.{whole_value, written_key}
use Rattle.json5_write.proofs.WrittenDepths.{whole_document}
use Rattle.json5_ser.proofs.laws.written_reads_back.Goals as goal

pub returns : goal.returns
returns c = record { value = whole_value; document = whole_document; key = written_key }
