use Rattle.std.proofs.Common.{not, nat_eq, get_or, refl, arith}
use Rattle.json5_write.specs.declared.identifiers.TheConstants.{NAME_BYTES}
use Rattle.json5_write.proofs.NamesFound.{by_table}
use Rattle.json5_write.proofs.identifiers.is_name_byte.Goals as goal

-- the table is held against the definition at each of the 256 bytes, by computing
pub returns : goal.returns
returns c = rw c.from.ensures (by_table (λ k. not (nat_eq (get_or NAME_BYTES k 0) 44)) c.args.byte (omega arith) refl)
