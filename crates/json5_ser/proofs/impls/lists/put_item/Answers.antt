use Rattle.json5_write.specs.Commas.{comma_before}
use Rattle.json5_write.specs.Out.{out, line, piece}
use Rattle.json5_write.proofs.OutputsJoined.{Reaches-first}
use Rattle.json5_write.proofs.ShortWritesJoined.{Puts-as, Puts-stop, Reaches-end}
use Rattle.json5_write.proofs.Commas.{comma_before_then, tree_put}
use Rattle.json5_ser.proofs.impls.lists.put_item.Goals as goal

pub returns-in_err-start_line : goal.returns-in_err-start_line
returns-in_err-start_line g c =
    let d = c.args.ser.now.depth in
    let o = out c.args.ser.now.limit (g.T.Serialize.tree c.args.item.now) d in
    Puts-as _ _ _ _ _ (comma_before_then c.args.comma_due (piece (line d)) o) (Puts-stop (comma_before c.args.comma_due (piece (line d))) o _ _ _ _ c.from_residual.ensures.1 (rw c.ser.view_is at c.in_err-start_line.ensures))

pub returns : goal.returns
returns g c =
    let d = c.args.ser.now.depth in
    let u = g.T.Serialize.tree c.args.item.now in
    let o = out c.args.ser.now.limit u d in
    let first = Reaches-first (comma_before c.args.comma_due (piece (line d))) o _ _ (rw c.ser.view_is at c.in_ok-start_line.ensures) in
    Puts-as _ _ _ _ _ (comma_before_then c.args.comma_due (piece (line d)) o) (Reaches-end _ o _ _ _ _ first (tree_put _ _ _ u (rw c.ser.view_is at c.in_ok-start_line.ensures) c.put.ensures))
