use Rattle.std.proofs.Common.{arith}
use Rattle.json5_write.proofs.CopiesJoined.{Copied-then, Copied-at}
use Rattle.json5_write.proofs.byte_copies.copy_between_quotes.Goals as goal

pub returns : goal.returns
returns c = Copied-at _ (omega arith) (Copied-then (Copied-then c.copy_byte.ensures c.copy_to.ensures) c.copy_byte-2.ensures)
