use Rattle.std.proofs.Common.{[], ◌∷◌}
use Rattle.std.specs.Str.{chars}
use Rattle.json5_write.specs.Out.{piece, ◌then◌}
use Rattle.json5_write.proofs.OutputsJoined.{Reaches-first, Reaches-next}
use Rattle.json5_write.proofs.ShortWritesJoined.{Puts-stop, Reaches-stop, Reaches-end}
use Rattle.json5_write.proofs.PiecesWritten.{chars_double_quote}
use Rattle.json5_write.proofs.printer.Printer.put_escape_free.Goals as goal

pub returns-in_err-put_piece : goal.returns-in_err-put_piece
returns-in_err-put_piece g c =
    let mark = rw chars_double_quote at c.in_err-put_piece.ensures in
    Puts-stop (piece (34 ∷ [])) (piece (chars c.args.text.now) then piece (34 ∷ [])) _ _ _ _ c.from_residual.ensures.1 mark

pub returns-in_err-put_piece-2 : goal.returns-in_err-put_piece-2
returns-in_err-put_piece-2 g c =
    let mark = rw chars_double_quote at c.in_ok-put_piece.ensures in
    Reaches-stop _ (piece (chars c.args.text.now)) (piece (34 ∷ [])) _ _ _ _ _ (Reaches-first (piece (34 ∷ [])) (piece (chars c.args.text.now) then piece (34 ∷ [])) _ _ mark) c.from_residual-in_err-put_piece-2.ensures.1 c.in_err-put_piece-2.ensures

pub returns : goal.returns
returns g c =
    let mark = rw chars_double_quote at c.in_ok-put_piece.ensures in
    let last = rw chars_double_quote at c.put_piece-3.ensures in
    Reaches-end _ (piece (34 ∷ [])) _ _ _ _ (Reaches-next _ (piece (chars c.args.text.now)) (piece (34 ∷ [])) _ _ _ (Reaches-first (piece (34 ∷ [])) (piece (chars c.args.text.now) then piece (34 ∷ [])) _ _ mark) c.in_ok-put_piece-2.ensures) last
