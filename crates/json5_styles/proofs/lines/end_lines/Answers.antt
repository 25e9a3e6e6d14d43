use Rattle.std.proofs.Common.{◌++◌, ap, ◌∙◌}
use Rattle.json5_styles.specs.Layouts.{line_in}
use Rattle.json5_styles.specs.Styles.{comma_if}
use Rattle.json5_styles.proofs.PiecesPut.{put_as, chars_nil}
use Rattle.json5_styles.proofs.lines.end_lines.Goals as goal

pub returns-then-not-started : goal.returns-then-not-started
returns-then-not-started g c = rw c.if-not-started.true (put_as _ _ _ _ _ chars_nil c.put_piece.ensures)

pub returns : goal.returns
returns g c =
    let line = line_in c.args.form.now.layout c.args.depth in
    rw c.if-not-started.false (put_as _ _ _ _ _ (c.within-line.ensures c.has_last_comma.result ∙ ap (λ b. comma_if b ++ line) c.has_last_comma.ensures) c.put.ensures)
