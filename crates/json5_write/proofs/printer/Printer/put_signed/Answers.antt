use Rattle.std.proofs.Common.{◌≡◌, ap, ◌∙◌, arith}
use mir.Syntax.{w64, w128}
use mir.Val.{to_z, of_z}
use Rattle.std.proofs.lemmas.Int.{to_z-of_z}
use Rattle.json5_grammar.specs.Language.Numbers.{whole}
use Rattle.json5_write.proofs.PiecesWritten.{chars_number}
use Rattle.json5_write.proofs.WritableNumbers.{Puts-number, signed_whole}
use Rattle.json5_write.proofs.printer.Printer.put_signed.Goals as goal

pub returns-in-Err : goal.returns-in-Err
returns-in-Err g c = Puts-number (whole c.args.value) _ _ _ (signed_whole c.args.value (omega (arith, c.ranges.value.sfits))) (rw (chars_number _ c.format-in-Err.ensures.ascii, c.format-in-Err.ensures.text, to_z-of_z w128 c.args.value c.ranges.value) at c.put_piece-in-Err.ensures)

pub returns-in-Ok : goal.returns-in-Ok
returns-in-Ok g c =
    let (fits, is) = c.in-Ok.ensures in
    let written : to_z w64 (of_z w64 c.in-Ok.narrow) ≡ c.args.value = ap (λ z. to_z w64 (of_z w64 z)) is ∙ to_z-of_z w64 _ fits ∙ to_z-of_z w128 c.args.value c.ranges.value in
    Puts-number (whole c.args.value) _ _ _ (signed_whole c.args.value (omega (arith, c.ranges.value.sfits))) (rw (chars_number _ c.format.ensures.ascii, c.format.ensures.text, written) at c.put_piece.ensures)
