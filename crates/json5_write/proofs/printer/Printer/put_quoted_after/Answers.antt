use Rattle.std.proofs.Common.{◌∷◌, refl, sym}
use Rattle.json5_write.specs.Brackets.{sign_of}
use Rattle.json5_write.specs.Pieces.{between_quotes}
use Rattle.json5_write.proofs.QuotesWritten.{between_utf8, between_chars, after_sign_utf8, after_sign_chars}
use Rattle.json5_write.proofs.PiecesWritten.{wrote_piece, broke_piece, pushed_whole, pushed_front}
use Rattle.json5_write.proofs.printer.Printer.put_quoted_after.Goals as goal

pub returns-then-is_ok : goal.returns-then-is_ok
returns-then-is_ok g c =
    let t = c.args.text.now in
    let m = c.args.before in
    let bytes = rw (c.as_bytes.ensures.value, c.byte.ensures) at (pushed_whole _ _ _ _ (sym c.if-is_ok.ensures.value) c.write_quoted_after.ensures) in
    rw (← c.self.view_is, ← between_chars t c.utf8.text, ← after_sign_chars m (between_quotes t))
    (wrote_piece (sign_of m ∷ between_quotes t) _ _ (after_sign_utf8 m (between_quotes t) (between_utf8 t c.utf8.text)) c.if-self.false c.if-self.false refl refl bytes)

pub returns : goal.returns
returns g c =
    let t = c.args.text.now in
    let m = c.args.before in
    let bytes = rw (c.as_bytes.ensures.value, c.byte.ensures) at (pushed_front _ _ _ _ (sym c.if-is_ok.ensures.value) c.write_quoted_after.ensures) in
    rw (← c.self.view_is, ← between_chars t c.utf8.text, ← after_sign_chars m (between_quotes t))
    (broke_piece (sign_of m ∷ between_quotes t) _ _ (after_sign_utf8 m (between_quotes t) (between_utf8 t c.utf8.text)) c.if-self.false refl bytes)
