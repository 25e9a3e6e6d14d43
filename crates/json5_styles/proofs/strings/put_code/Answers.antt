use Rattle.std.proofs.Common.{◌/◌, ◌%◌, [], ◌∷◌}
use Rattle.std.specs.Char.{digit_char}
use Rattle.json5_styles.proofs.PiecesPut.{stop_first, then_second, put_as, wrote_as, refused_as, chars_code_front}
use Rattle.json5_styles.proofs.strings.put_code.Goals as goal

pub returns-in_err-put_piece : goal.returns-in_err-put_piece
returns-in_err-put_piece g c =
    stop_first (92 ∷ 117 ∷ 48 ∷ 48 ∷ []) (digit_char (c.args.code / 16) ∷ digit_char (c.args.code % 16) ∷ []) _ _ _ _ c.from_residual.ensures.1 (refused_as _ _ _ _ _ chars_code_front c.in_err-put_piece.ensures)

pub returns-in_err-put_piece-2 : goal.returns-in_err-put_piece-2
returns-in_err-put_piece-2 g c =
    then_second (92 ∷ 117 ∷ 48 ∷ 48 ∷ []) (digit_char (c.args.code / 16) ∷ digit_char (c.args.code % 16) ∷ []) _ _ _ _ (wrote_as _ _ _ _ chars_code_front c.in_ok-put_piece.ensures)
    (stop_first (digit_char (c.args.code / 16) ∷ []) (digit_char (c.args.code % 16) ∷ []) _ _ _ _ c.from_residual-in_err-put_piece-2.ensures.1 (refused_as _ _ _ _ _ c.hex_digit.ensures c.in_err-put_piece-2.ensures))

pub returns : goal.returns
returns g c =
    then_second (92 ∷ 117 ∷ 48 ∷ 48 ∷ []) (digit_char (c.args.code / 16) ∷ digit_char (c.args.code % 16) ∷ []) _ _ _ _ (wrote_as _ _ _ _ chars_code_front c.in_ok-put_piece.ensures)
    (then_second (digit_char (c.args.code / 16) ∷ []) (digit_char (c.args.code % 16) ∷ []) _ _ _ _ (wrote_as _ _ _ _ c.hex_digit.ensures c.in_ok-put_piece-2.ensures) (put_as _ _ _ _ _ c.hex_digit-2.ensures c.put_piece-3.ensures))
