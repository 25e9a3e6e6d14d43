use Rattle.std.proofs.Common.{[], ◌∷◌, ◌++◌}
use Rattle.std.specs.Str.{chars}
use Rattle.json5_write.proofs.PiecesWritten.{chars_double_quote}
use Rattle.json5_styles.specs.JsonTexts.{json_escaped_all}
use Rattle.json5_styles.proofs.PiecesPut.{stop_first, then_second, put_as, wrote_as, refused_as}
use Rattle.json5_styles.proofs.strings.put_escaped_string.Goals as goal

pub returns-in_err-put_piece : goal.returns-in_err-put_piece
returns-in_err-put_piece g c =
    stop_first (34 ∷ []) (json_escaped_all (chars c.args.text.now) ++ 34 ∷ []) _ _ _ _ c.from_residual.ensures.1 (refused_as _ _ _ _ _ chars_double_quote c.in_err-put_piece.ensures)

pub returns-in_err-put_json_chars : goal.returns-in_err-put_json_chars
returns-in_err-put_json_chars g c =
    let text = json_escaped_all (chars c.args.text.now) in
    then_second (34 ∷ []) (text ++ 34 ∷ []) _ _ _ _ (wrote_as _ _ _ _ chars_double_quote c.in_ok-put_piece.ensures)
    (stop_first text (34 ∷ []) _ _ _ _ c.from_residual-in_err-put_json_chars.ensures.1 c.in_err-put_json_chars.ensures)

pub returns : goal.returns
returns g c =
    let text = json_escaped_all (chars c.args.text.now) in
    then_second (34 ∷ []) (text ++ 34 ∷ []) _ _ _ _ (wrote_as _ _ _ _ chars_double_quote c.in_ok-put_piece.ensures)
    (then_second text (34 ∷ []) _ _ _ _ c.in_ok-put_json_chars.ensures (put_as _ _ _ _ _ chars_double_quote c.put_piece-2.ensures))
