use Rattle.std.proofs.Common.{◌∷◌, refl, sym, arith}
use Rattle.std.specs.Fmt.{decimal}
use Rattle.std.proofs.lemmas.Fmt.{IsAscii-decimal}
use Rattle.std.proofs.lemmas.Str.{IsUtf8-from_ascii}
use Rattle.json5_write.specs.Brackets.{sign_of}
use Rattle.json5_write.proofs.QuotesWritten.{after_sign_ascii}
use Rattle.json5_write.proofs.PiecesWritten.{chars_number, wrote_piece, broke_piece, pushed_whole, pushed_front}
use Rattle.json5_write.proofs.printer.Printer.put_number_after.Goals as goal

pub returns-then-is_ok : goal.returns-then-is_ok
returns-then-is_ok g c =
    let text = sign_of c.args.before ∷ decimal c.args.number in
    let ascii = after_sign_ascii c.args.before (decimal c.args.number) (IsAscii-decimal c.args.number (omega arith)) in
    let bytes = rw c.byte.ensures at (pushed_whole _ _ _ _ (sym c.if-is_ok.ensures.value) c.write_number_after.ensures) in
    rw (← c.self.view_is, ← chars_number text ascii) (wrote_piece text _ _ (IsUtf8-from_ascii text ascii) c.if-self.false c.if-self.false refl refl bytes)

pub returns : goal.returns
returns g c =
    let text = sign_of c.args.before ∷ decimal c.args.number in
    let ascii = after_sign_ascii c.args.before (decimal c.args.number) (IsAscii-decimal c.args.number (omega arith)) in
    let bytes = rw c.byte.ensures at (pushed_front _ _ _ _ (sym c.if-is_ok.ensures.value) c.write_number_after.ensures) in
    rw (← c.self.view_is, ← chars_number text ascii) (broke_piece text _ _ (IsUtf8-from_ascii text ascii) c.if-self.false refl bytes)
