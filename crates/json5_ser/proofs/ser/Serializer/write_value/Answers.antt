use Rattle.std.proofs.Common.{[], ◌∷◌, Ok}
use Rattle.std.specs.Prelude.{⊤}
use Rattle.json5_grammar.specs.Language.Characters.{colon_sign, space, comma_sign}
use Rattle.json5_write.specs.Out.{out, piece, ◌then◌}
use Rattle.json5_write.proofs.OutputsJoined.{Reaches-first, Reaches-next, Reaches-last}
use Rattle.json5_write.proofs.ShortWritesJoined.{Puts-exit, Puts-handed, Reaches-put}
use Rattle.json5_write.proofs.PiecesWritten.{chars_comma, chars_colon_space}
use Rattle.json5_write.proofs.Commas.{tree_wrote, tree_refused}
use Rattle.json5_ser.proofs.ser.Serializer.write_value.Goals as goal

pub returns-in_err-put_piece : goal.returns-in_err-put_piece
returns-in_err-put_piece g c =
    let o = out c.args.self.now.limit (g.T.Serialize.tree c.args.value.now) c.args.self.now.depth in
    Puts-exit (piece (colon_sign ∷ space ∷ [])) (o then piece (comma_sign ∷ [])) _ _ _ _ c.from_residual.ensures.1 (rw (chars_colon_space, c.self.view_is) at c.in_err-put_piece.ensures)

pub returns-in_err-put : goal.returns-in_err-put
returns-in_err-put g c =
    let t = g.T.Serialize.tree c.args.value.now in
    let o = out c.args.self.now.limit t c.args.self.now.depth in
    let comma = piece (comma_sign ∷ []) in
    let colon = rw (chars_colon_space, c.self.view_is) at c.in_ok-put_piece.ensures in
    let first = Reaches-first (piece (colon_sign ∷ space ∷ [])) (o then comma) _ _ colon in
    Reaches-put _ o comma _ _ _ _ _ first c.from_residual-in_err-put.ensures.1 (tree_refused _ _ _ t colon c.in_err-put.ensures)

pub returns-in_err-put_piece-2 : goal.returns-in_err-put_piece-2
returns-in_err-put_piece-2 g c =
    let t = g.T.Serialize.tree c.args.value.now in
    let o = out c.args.self.now.limit t c.args.self.now.depth in
    let comma = piece (comma_sign ∷ []) in
    let colon = rw (chars_colon_space, c.self.view_is) at c.in_ok-put_piece.ensures in
    let first = Reaches-first (piece (colon_sign ∷ space ∷ [])) (o then comma) _ _ colon in
    let value = tree_wrote _ _ t colon c.in_ok-put.ensures in
    Reaches-last _ comma _ _ _ _ (Reaches-next _ o comma _ _ _ first value) (Puts-handed comma _ _ _ _ c.from_residual-in_err-put_piece-2.ensures.1 (rw (chars_comma, c.self-2.view_is) at c.in_err-put_piece-2.ensures))

pub returns : goal.returns
returns g c =
    let t = g.T.Serialize.tree c.args.value.now in
    let o = out c.args.self.now.limit t c.args.self.now.depth in
    let comma = piece (comma_sign ∷ []) in
    let colon = rw (chars_colon_space, c.self.view_is) at c.in_ok-put_piece.ensures in
    let first = Reaches-first (piece (colon_sign ∷ space ∷ [])) (o then comma) _ _ colon in
    let value = tree_wrote _ _ t colon c.in_ok-put.ensures in
    Reaches-last {A = ⊤} _ comma _ _ _ (Ok tt) (Reaches-next _ o comma _ _ _ first value) (rw (chars_comma, c.self-2.view_is) at c.in_ok-put_piece-2.ensures)
