use Rattle.std.proofs.Common.{◌-◌, ◌≤◌, ◌∙◌, ap, drop, replicate, arith}
use Rattle.json5_write.specs.Out.{piece}
use Rattle.json5_write.proofs.OutputsJoined.{Reaches-next}
use Rattle.json5_write.proofs.ShortWritesJoined.{Reaches-stop, Reaches-end}
use Rattle.json5_styles.specs.Blanks.{blank_of}
use Rattle.json5_styles.proofs.BlanksPut.{blanks_alone, boundary, cut, row_boundary, row_front}
use Rattle.json5_styles.proofs.PiecesPut.{reaches_as, put_as, wrote_as, refused_as}
use Rattle.json5_styles.proofs.lines.put_blanks.Goals as goal

pub split_at-requires : goal.split_at-requires
split_at-requires g c = boundary c.args.blank _ 0 c.longest_line.ensures (omega arith)

pub returns-in_err-put_piece : goal.returns-in_err-put_piece
returns-in_err-put_piece g c =
    let b = blank_of c.args.blank in
    let row = blanks_alone c.args.blank _ _ 256 c.longest_line.ensures c.split_at.ensures.back in
    let next = reaches_as _ _ _ _ _ (cut c.loop-left.left b (omega (arith, c.loop-left-test.true))) c.loop-left.invariant in
    Reaches-stop _ (piece (replicate 256 b)) (piece (replicate (c.loop-left.left - 256) b)) _ _ _ _ _ next c.from_residual.ensures.1 (refused_as _ _ _ _ _ row c.in_err-put_piece.ensures)

pub loop-left-preserved : goal.loop-left-preserved
loop-left-preserved g c =
    let b = blank_of c.args.blank in
    let row = blanks_alone c.args.blank _ _ 256 c.longest_line.ensures c.split_at.ensures.back in
    let next = reaches_as _ _ _ _ _ (cut c.loop-left.left b (omega (arith, c.loop-left-test.true))) c.loop-left.invariant in
    Reaches-next _ (piece (replicate 256 b)) (piece (replicate (c.loop-left.left - 256) b)) _ _ _ next (wrote_as _ _ _ _ row c.in_ok-put_piece.ensures)

pub split_at-requires-2 : goal.split_at-requires-2
split_at-requires-2 g c = row_boundary c.args.blank _ c.loop-left.left (c.split_at.ensures.back ∙ ap (drop 2) c.longest_line.ensures) (omega (arith, c.loop-left-test.false))

pub returns : goal.returns
returns g c =
    let row = row_front c.args.blank _ _ c.loop-left.left (c.split_at.ensures.back ∙ ap (drop 2) c.longest_line.ensures) c.split_at-2.ensures.front (omega (arith, c.loop-left-test.false)) in
    Reaches-end _ (piece (replicate c.loop-left.left (blank_of c.args.blank))) _ _ _ _ c.loop-left.invariant (put_as _ _ _ _ _ row c.put_piece-2.ensures)
