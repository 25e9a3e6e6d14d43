use Rattle.std.proofs.Common.{[], ◌∷◌, ap, sym}
use Rattle.std.specs.Str.{chars}
use Rattle.json5_write.specs.Brackets.{sign_of}
use Rattle.json5_styles.specs.Layouts.{string_in}
use Rattle.json5_styles.proofs.PiecesPut.{stop_first, then_second, put_as, wrote_as, refused_as}
use Rattle.json5_styles.proofs.strings.put_string_after.Goals as goal

pub returns-then-needs_no_escape : goal.returns-then-needs_no_escape
returns-then-needs_no_escape g c = put_as _ _ _ _ _ (ap (λ u. sign_of c.args.before ∷ u) (sym (c.needs_no_escape.ensures c.if-needs_no_escape.true))) c.put_quoted_after.ensures

pub returns-in_err-put_piece : goal.returns-in_err-put_piece
returns-in_err-put_piece g c =
    stop_first (sign_of c.args.before ∷ []) (string_in c.args.spelling (chars c.args.text.now)) _ _ _ _ c.from_residual.ensures.1 (refused_as _ _ _ _ _ c.text.ensures c.in_err-put_piece.ensures)

pub returns : goal.returns
returns g c =
    then_second (sign_of c.args.before ∷ []) (string_in c.args.spelling (chars c.args.text.now)) _ _ _ _ (wrote_as _ _ _ _ c.text.ensures c.in_ok-put_piece.ensures) c.put_string.ensures
