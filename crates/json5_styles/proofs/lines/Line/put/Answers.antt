use Rattle.std.proofs.Common.{replicate, if◌then◌else◌, ap, ◌∙◌}
use Rattle.std.specs.Str.{chars}
use Rattle.json5_styles.specs.Blanks.{blank_of}
use Rattle.json5_styles.proofs.BlanksPut.{no_more}
use Rattle.json5_styles.proofs.PiecesPut.{stop_first, then_second, wrote_as, refused_as}
use Rattle.json5_styles.proofs.lines.Line.put.Goals as goal

pub returns-in_err-put_piece : goal.returns-in_err-put_piece
returns-in_err-put_piece g c =
    let l = c.args.self in
    stop_first (chars (if c.args.comma_due then l.next.now else l.first.now)) (replicate l.more (blank_of l.blank)) _ _ _ _ c.from_residual.ensures.1 (refused_as _ _ _ _ _ (ap chars c.piece.ensures) c.in_err-put_piece.ensures)

pub returns-then-self-eq0 : goal.returns-then-self-eq0
returns-then-self-eq0 g c =
    let l = c.args.self in
    wrote_as _ _ _ _ (ap chars c.piece.ensures ∙ no_more (chars (if c.args.comma_due then l.next.now else l.first.now)) l.more (blank_of l.blank) c.if-self-eq0.true) c.in_ok-put_piece.ensures

pub returns : goal.returns
returns g c =
    let l = c.args.self in
    then_second (chars (if c.args.comma_due then l.next.now else l.first.now)) (replicate l.more (blank_of l.blank)) _ _ _ _ (wrote_as _ _ _ _ (ap chars c.piece.ensures) c.in_ok-put_piece.ensures) c.put_blanks.ensures
