use Rattle.std.proofs.Common.{[], ◌∷◌, Ok}
use Rattle.std.specs.Prelude.{⊤}
use Rattle.json5_grammar.specs.Language.Characters.{comma_sign}
use Rattle.json5_write.specs.Out.{out, line, piece, ◌then◌}
use Rattle.json5_write.proofs.OutputsJoined.{Reaches-first, Reaches-next, Reaches-last}
use Rattle.json5_write.proofs.ShortWritesJoined.{Puts-exit, Puts-handed, Reaches-put}
use Rattle.json5_write.proofs.PiecesWritten.{chars_comma}
use Rattle.json5_write.proofs.Commas.{tree_wrote, tree_refused}
use Rattle.json5_ser.proofs.ser.Serializer.write_element.Goals as goal

pub returns-in_err-start_line : goal.returns-in_err-start_line
returns-in_err-start_line g c =
    let d = c.args.self.now.depth in
    let o = out c.args.self.now.limit (g.T.Serialize.tree c.args.value.now) d in
    Puts-exit (piece (line d)) (o then piece (comma_sign ∷ [])) _ _ _ _ c.from_residual.ensures.1 (rw c.self.view_is at c.in_err-start_line.ensures)

pub returns-in_err-put : goal.returns-in_err-put
returns-in_err-put g c =
    let d = c.args.self.now.depth in
    let t = g.T.Serialize.tree c.args.value.now in
    let o = out c.args.self.now.limit t d in
    let comma = piece (comma_sign ∷ []) in
    let first = Reaches-first (piece (line d)) (o then comma) _ _ (rw c.self.view_is at c.in_ok-start_line.ensures) in
    Reaches-put _ o comma _ _ _ _ _ first c.from_residual-in_err-put.ensures.1 (tree_refused _ _ _ t (rw c.self.view_is at c.in_ok-start_line.ensures) c.in_err-put.ensures)

pub returns-in_err-put_piece : goal.returns-in_err-put_piece
returns-in_err-put_piece g c =
    let d = c.args.self.now.depth in
    let t = g.T.Serialize.tree c.args.value.now in
    let o = out c.args.self.now.limit t d in
    let comma = piece (comma_sign ∷ []) in
    let first = Reaches-first (piece (line d)) (o then comma) _ _ (rw c.self.view_is at c.in_ok-start_line.ensures) in
    let value = tree_wrote _ _ t (rw c.self.view_is at c.in_ok-start_line.ensures) c.in_ok-put.ensures in
    Reaches-last _ comma _ _ _ _ (Reaches-next _ o comma _ _ _ first value) (Puts-handed comma _ _ _ _ c.from_residual-in_err-put_piece.ensures.1 (rw (chars_comma, c.self-2.view_is) at c.in_err-put_piece.ensures))

pub returns : goal.returns
returns g c =
    let d = c.args.self.now.depth in
    let t = g.T.Serialize.tree c.args.value.now in
    let o = out c.args.self.now.limit t d in
    let comma = piece (comma_sign ∷ []) in
    let first = Reaches-first (piece (line d)) (o then comma) _ _ (rw c.self.view_is at c.in_ok-start_line.ensures) in
    let value = tree_wrote _ _ t (rw c.self.view_is at c.in_ok-start_line.ensures) c.in_ok-put.ensures in
    Reaches-last {A = ⊤} _ comma _ _ _ (Ok tt) (Reaches-next _ o comma _ _ _ first value) (rw (chars_comma, c.self-2.view_is) at c.in_ok-put_piece.ensures)
