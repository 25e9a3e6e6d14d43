use Rattle.std.proofs.Common.{rules}
use Rattle.json5_write.proofs.value.put_whole_number.Goals as goal

pub returns-in-Some : goal.returns-in-Some
returns-in-Some g c = search rules
