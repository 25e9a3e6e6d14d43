use Rattle.std.proofs.Common.{sym, subst}
use Rattle.std.specs.Str.{chars}
use Rattle.json5_lexemes.specs.Pieces.{IsPiece, TakesLineEnd}
use Rattle.json5_lexemes.proofs.PiecesPassed.{blank_piece}
use Rattle.json5_lexemes.proofs.pieces.pass_piece.Goals as goal

pub returns-then-is_json5_line_terminator : goal.returns-then-is_json5_line_terminator
returns-then-is_json5_line_terminator c = IsPiece.line_end (subst (λ x. TakesLineEnd x (chars c.skip_line_end.result.now)) (sym c.in-Some.ensures.chars) c.skip_line_end.ensures)

pub returns-then-is_json5_whitespace : goal.returns-then-is_json5_whitespace
returns-then-is_json5_whitespace c =
    blank_piece (chars c.args.text.now) (chars c.in-Some.after.now) c.in-Some.c c.in-Some.ensures.chars (sym c.if-is_json5_whitespace.ensures) (sym c.if-is_json5_line_terminator.ensures)
