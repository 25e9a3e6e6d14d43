use Rattle.std.proofs.Common.{◌≡◌, arith, rules}
use Rattle.std.specs.Prelude.{pos}
use Rattle.json5_grammar.specs.Language.Numbers.{whole}
use Rattle.json5_write.proofs.PiecesWritten.{chars_number}
use Rattle.json5_write.proofs.WritableNumbers.{Puts-number, unsigned_whole}
use Rattle.json5_write.proofs.printer.Printer.put_unsigned.Goals as goal

pub returns-in-Ok : goal.returns-in-Ok
returns-in-Ok g c =
    let same : c.in-Ok.narrow ≡ c.args.value = search rules in
    Puts-number (whole (pos c.args.value)) _ _ _ (unsigned_whole c.args.value (omega (arith, c.ranges.value))) (rw (chars_number _ c.format.ensures.ascii, c.format.ensures.text, same) at c.put_piece.ensures)

pub returns-in-Err : goal.returns-in-Err
returns-in-Err g c =
    Puts-number (whole (pos c.args.value)) _ _ _ (unsigned_whole c.args.value (omega (arith, c.ranges.value))) (rw (chars_number _ c.format-in-Err.ensures.ascii, c.format-in-Err.ensures.text) at c.put_piece-in-Err.ensures)
