use Rattle.std.specs.Str.{chars}
use Rattle.json5_write.proofs.OutputsJoined.{Reaches-first, Reaches-next}
use Rattle.json5_write.proofs.ShortWritesJoined.{Puts-as, Puts-stop, Reaches-stop, Reaches-end}
use Rattle.json5_write.proofs.PiecesWritten.{quoted_parts}
use Rattle.json5_write.proofs.printer.Printer.put_quoted.Goals as goal

pub returns-in_err-put_piece : goal.returns-in_err-put_piece
returns-in_err-put_piece g c =
    let parts = quoted_parts (chars c.args.text.now) _ _ c.around-quote.ensures c.text-mark.ensures in
    Puts-as _ _ _ _ _ parts (Puts-stop _ _ _ _ _ _ c.from_residual.ensures.1 c.in_err-put_piece.ensures)

pub returns-in_err-put_escaped : goal.returns-in_err-put_escaped
returns-in_err-put_escaped g c =
    let parts = quoted_parts (chars c.args.text.now) _ _ c.around-quote.ensures c.text-mark.ensures in
    Puts-as _ _ _ _ _ parts (Reaches-stop _ _ _ _ _ _ _ _ (Reaches-first _ _ _ _ c.in_ok-put_piece.ensures) c.from_residual-in_err-put_escaped.ensures.1 c.in_err-put_escaped.ensures)

pub returns : goal.returns
returns g c =
    let parts = quoted_parts (chars c.args.text.now) _ _ c.around-quote.ensures c.text-mark.ensures in
    Puts-as _ _ _ _ _ parts (Reaches-end _ _ _ _ _ _ (Reaches-next _ _ _ _ _ _ (Reaches-first _ _ _ _ c.in_ok-put_piece.ensures) c.in_ok-put_escaped.ensures) c.put_piece-2.ensures)
