use Rattle.std.proofs.Common.{arith}
use Rattle.json5_styles.proofs.PiecesPut.{put_as, after_backslash}
use Rattle.json5_styles.proofs.strings.put_escaped.Goals as goal

pub returns-in-34 : goal.returns-in-34
returns-in-34 g c = rw c.in-34.is (put_as _ _ _ _ _ (after_backslash 34 (omega arith)) c.put_piece.ensures)

pub returns-in-92 : goal.returns-in-92
returns-in-92 g c = rw c.in-92.is (put_as _ _ _ _ _ (after_backslash 92 (omega arith)) c.put_piece-in-92.ensures)

pub returns-in-8 : goal.returns-in-8
returns-in-8 g c = rw c.in-8.is (put_as _ _ _ _ _ (after_backslash 98 (omega arith)) c.put_piece-in-8.ensures)

pub returns-in-12 : goal.returns-in-12
returns-in-12 g c = rw c.in-12.is (put_as _ _ _ _ _ (after_backslash 102 (omega arith)) c.put_piece-in-12.ensures)

pub returns-in-10 : goal.returns-in-10
returns-in-10 g c = rw c.in-10.is (put_as _ _ _ _ _ (after_backslash 110 (omega arith)) c.put_piece-in-10.ensures)

pub returns-in-13 : goal.returns-in-13
returns-in-13 g c = rw c.in-13.is (put_as _ _ _ _ _ (after_backslash 114 (omega arith)) c.put_piece-in-13.ensures)

pub returns-in-9 : goal.returns-in-9
returns-in-9 g c = rw c.in-9.is (put_as _ _ _ _ _ (after_backslash 116 (omega arith)) c.put_piece-in-9.ensures)
