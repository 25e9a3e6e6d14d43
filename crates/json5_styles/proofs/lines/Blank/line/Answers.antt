use Rattle.json5_styles.proofs.BlanksPut.{boundary, front, with_comma, without_comma}
use Rattle.json5_styles.proofs.lines.Blank.line.Goals as goal

pub split_at-requires : goal.split_at-requires
split_at-requires c = boundary c.args.self _ c.args.count c.longest_line.ensures c.requires

pub returns-then-comma_due : goal.returns-then-comma_due
returns-then-comma_due c = with_comma c.args.self c.args.comma_due _ c.args.count c.if-comma_due.true (front c.args.self _ _ c.args.count c.longest_line.ensures c.split_at.ensures.front c.requires)

pub returns : goal.returns
returns c = without_comma c.args.self c.args.comma_due _ _ c.args.count c.if-comma_due.false (front c.args.self _ _ c.args.count c.longest_line.ensures c.split_at.ensures.front c.requires) c.split_at-2.ensures.back
