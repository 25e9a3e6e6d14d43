use Rattle.std.proofs.Common.{length}
use Rattle.json5_write.proofs.DecimalPieces.{IsLeft}
use Rattle.json5_write.proofs.printer.Printer.put_decimal.Given as goal

abbrev pub invariant-loop-piece : goal.invariant-loop-piece
invariant-loop-piece g l = IsLeft l.fn.value l.fn.self l.self l.pieces

abbrev pub decreases-loop-piece : goal.decreases-loop-piece
decreases-loop-piece g l = length l.pieces
