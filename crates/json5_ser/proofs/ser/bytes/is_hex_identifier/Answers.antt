use Rattle.std.proofs.Common.{arith}
use Rattle.json5_ser.proofs.HexPieces.{no_digits, letter_first, fits_bytes}
use Rattle.json5_ser.proofs.ser.bytes.is_hex_identifier.Goals as goal

pub returns-in-empty : goal.returns-in-empty
returns-in-empty c = no_digits c.args.bytes.now (omega arith)

pub returns-in-len1-up : goal.returns-in-len1-up
returns-in-len1-up c = letter_first c.args.bytes.now (fits_bytes c.args.bytes.now c.type_inv.bytes) c.in-len1-up.len_at_least
