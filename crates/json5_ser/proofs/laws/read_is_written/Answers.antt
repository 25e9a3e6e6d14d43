use Rattle.json5_write.proofs.ReadTreesWritable.{read_written}
use Rattle.json5_ser.proofs.laws.read_is_written.Goals as goal

pub returns : goal.returns
returns c = read_written
