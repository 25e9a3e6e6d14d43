use Rattle.json5_grammar.specs.Language.Numbers.{decimal}
use Rattle.json5_write.proofs.DecimalPieces.{left_all, left_next, left_stop, left_none}
use Rattle.json5_write.proofs.WritableNumbers.{Puts-number, number_wrote}
use Rattle.json5_write.proofs.printer.Printer.put_decimal.Goals as goal

pub loop-piece-init : goal.loop-piece-init
loop-piece-init g c = left_all _ _ _ c.pieces-pieces.ensures.normal c.pieces-pieces.ensures.value

pub returns-in_err-put_piece : goal.returns-in_err-put_piece
returns-in_err-put_piece g c =
    Puts-number (decimal c.args.value.now) _ _ _ c.pieces-pieces.ensures.normal (left_stop _ _ _ _ _ _ _ _ _ c.loop-piece.invariant c.in-Some.ensures c.from_residual.ensures.1 c.in_err-put_piece.ensures)

pub loop-piece-preserved : goal.loop-piece-preserved
loop-piece-preserved g c = left_next _ _ _ _ _ _ _ c.loop-piece.invariant c.in-Some.ensures c.in_ok-put_piece.ensures

pub returns : goal.returns
returns g c = number_wrote (decimal c.args.value.now) _ _ c.pieces-pieces.ensures.normal (left_none _ _ _ _ c.loop-piece.invariant c.in_default.ensures)
