use Rattle.std.proofs.Common.{arith}
use Rattle.json5_styles.specs.Blanks.{blank_of}
use Rattle.json5_styles.proofs.BlanksPut.{shown_line}
use Rattle.json5_styles.proofs.lines.Line.indented.Goals as goal

pub returns : goal.returns
returns c =
    let least = c.min-shown.ensures in
    λ due. shown_line (blank_of c.args.blank) _ c.args.count due _ _ (omega arith) c.line.ensures c.line-2.ensures
