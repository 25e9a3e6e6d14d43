use Rattle.std.proofs.Common.{rules}
use Rattle.json5_ser.proofs.whole_output.to_writer_within.Goals as goal

pub returns : goal.returns
returns g c = search rules
