use Rattle.std.proofs.Common.{arith}
use Rattle.json5_types.proofs.DecimalPieces.{front_after, front_of_zeros}
use Rattle.json5_types.proofs.NumberZeros.{is_none}
use Rattle.json5_types.proofs.decimal_pieces.Pieces.next_piece.Goals as goal

pub returns-then-self-gt0 : goal.returns-then-self-gt0
returns-then-self-gt0 c =
    let sign = is_none c.self.inside.sign.now c.is_empty.result c.is_empty.ensures c.if-not-is_empty.false in
    let first = is_none c.self.inside.first.now c.is_empty-2.result c.is_empty-2.ensures c.if-not-is_empty-2.false in
    let some = c.if-self-gt0.true in
    let least = c.min-count.ensures in
    rw (← c.self.view_is) (front_after _ _ _ _ sign (front_after _ _ _ _ first (front_of_zeros c.self.inside.count c.min-count.result _ _ c.few_zeros.ensures (omega arith) (omega arith))))
