use Rattle.std.proofs.Common.{[], ◌∷◌}
use Rattle.json5_grammar.specs.Language.Characters.{colon_sign, space}
use Rattle.json5_write.specs.Out.{out, line, piece, ◌then◌, key_out}
use Rattle.json5_write.specs.Commas.{comma_before}
use Rattle.json5_write.proofs.OutputsJoined.{Reaches-first, Reaches-next}
use Rattle.json5_write.proofs.ShortWritesJoined.{Puts-as, Puts-stop, Reaches-stop, Reaches-end}
use Rattle.json5_write.proofs.PiecesWritten.{chars_colon_space}
use Rattle.json5_write.proofs.Commas.{member_parts, tree_put}
use Rattle.json5_ser.proofs.ser.Serializer.put_member.Goals as goal

pub returns-in_err-start_line : goal.returns-in_err-start_line
returns-in_err-start_line g c =
    let s = c.args.self.now in
    let k = g.K.SerializeKey.as_key c.args.key.now in
    let t = g.T.Serialize.tree c.args.value.now in
    let rest = piece (colon_sign ∷ space ∷ []) then out s.limit t s.depth in
    Puts-as _ _ _ _ _ (member_parts c.args.comma_due s.limit s.depth k t) (Puts-stop (comma_before c.args.comma_due (piece (line s.depth))) (key_out k then rest) _ _ _ _ c.from_residual.ensures.1 (rw c.self.view_is at c.in_err-start_line.ensures))

pub returns-in_err-put_map_key : goal.returns-in_err-put_map_key
returns-in_err-put_map_key g c =
    let s = c.args.self.now in
    let k = g.K.SerializeKey.as_key c.args.key.now in
    let t = g.T.Serialize.tree c.args.value.now in
    let rest = piece (colon_sign ∷ space ∷ []) then out s.limit t s.depth in
    let first = Reaches-first (comma_before c.args.comma_due (piece (line s.depth))) (key_out k then rest) _ _ (rw c.self.view_is at c.in_ok-start_line.ensures) in
    Puts-as _ _ _ _ _ (member_parts c.args.comma_due s.limit s.depth k t) (Reaches-stop _ (key_out k) rest _ _ _ _ _ first c.from_residual-in_err-put_map_key.ensures.1 c.in_err-put_map_key.ensures)

pub returns-in_err-put_piece : goal.returns-in_err-put_piece
returns-in_err-put_piece g c =
    let s = c.args.self.now in
    let k = g.K.SerializeKey.as_key c.args.key.now in
    let t = g.T.Serialize.tree c.args.value.now in
    let o = out s.limit t s.depth in
    let colon = piece (colon_sign ∷ space ∷ []) in
    let first = Reaches-first (comma_before c.args.comma_due (piece (line s.depth))) (key_out k then (colon then o)) _ _ (rw c.self.view_is at c.in_ok-start_line.ensures) in
    let next = Reaches-next _ (key_out k) (colon then o) _ _ _ first c.in_ok-put_map_key.ensures in
    Puts-as _ _ _ _ _ (member_parts c.args.comma_due s.limit s.depth k t) (Reaches-stop _ colon o _ _ _ _ _ next c.from_residual-in_err-put_piece.ensures.1 (rw (chars_colon_space, c.self-2.view_is) at c.in_err-put_piece.ensures))

pub returns : goal.returns
returns g c =
    let s = c.args.self.now in
    let k = g.K.SerializeKey.as_key c.args.key.now in
    let t = g.T.Serialize.tree c.args.value.now in
    let o = out s.limit t s.depth in
    let colon = piece (colon_sign ∷ space ∷ []) in
    let put = rw (chars_colon_space, c.self-2.view_is) at c.in_ok-put_piece.ensures in
    let first = Reaches-first (comma_before c.args.comma_due (piece (line s.depth))) (key_out k then (colon then o)) _ _ (rw c.self.view_is at c.in_ok-start_line.ensures) in
    let next = Reaches-next _ (key_out k) (colon then o) _ _ _ first c.in_ok-put_map_key.ensures in
    let value = tree_put _ _ _ t (rw c.self.view_is at c.in_ok-start_line.ensures) (tree_put _ _ _ t c.in_ok-put_map_key.ensures (tree_put _ _ _ t put c.put.ensures)) in
    Puts-as _ _ _ _ _ (member_parts c.args.comma_due s.limit s.depth k t) (Reaches-end _ o _ _ _ _ (Reaches-next _ colon o _ _ _ next put) value)
