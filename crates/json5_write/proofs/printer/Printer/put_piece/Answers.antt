use Rattle.std.proofs.Common.{refl, sym}
use Rattle.json5_write.proofs.PiecesWritten.{wrote_piece, broke_piece, pushed_whole, pushed_front}
use Rattle.json5_write.proofs.printer.Printer.put_piece.Goals as goal

pub returns-then-is_ok : goal.returns-then-is_ok
returns-then-is_ok g c =
    let bytes = rw c.as_bytes.ensures.value at (pushed_whole _ _ _ _ (sym c.if-is_ok.ensures.value) c.write_whole.ensures) in
    rw (← c.self.view_is) (wrote_piece c.args.text.now _ _ c.utf8.text c.if-self.false c.if-self.false refl refl bytes)

pub returns : goal.returns
returns g c =
    let bytes = rw c.as_bytes.ensures.value at (pushed_front _ _ _ _ (sym c.if-is_ok.ensures.value) c.write_whole.ensures) in
    rw (← c.self.view_is) (broke_piece c.args.text.now _ _ c.utf8.text c.if-self.false refl bytes)
