use Rattle.std.proofs.Common.{◌∙◌, refl}
use Rattle.json5_grammar.specs.Language.Documents.{max_depth}
use Rattle.json5_write.proofs.LineStarts.{shorter_line, line_boundary, line_after_comma, line_alone}
use Rattle.json5_write.proofs.line_starts.line.Goals as goal

pub split_at-requires : goal.split_at-requires
split_at-requires c = line_boundary _ max_depth c.args.depth c.from.result refl c.from.ensures c.requires

pub returns-then-comma_due : goal.returns-then-comma_due
returns-then-comma_due c =
    line_after_comma c.args.comma_due _ c.args.depth c.if-comma_due.true (c.split_at.ensures.front ∙ shorter_line _ max_depth c.args.depth c.from.result refl c.from.ensures c.requires)

pub returns : goal.returns
returns c =
    line_alone c.args.comma_due _ _ c.args.depth c.if-comma_due.false (c.split_at.ensures.front ∙ shorter_line _ max_depth c.args.depth c.from.result refl c.from.ensures c.requires) c.split_at-2.ensures.back
