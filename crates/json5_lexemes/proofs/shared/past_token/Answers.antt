use Rattle.std.proofs.Common.{sym}
use Rattle.json5_lexemes.proofs.SharedSteps.{mark_shared}
use Rattle.json5_lexemes.proofs.shared.past_token.Goals as goal

pub returns-then-is_mark : goal.returns-then-is_mark
returns-then-is_mark c = mark_shared c.args.first c.args.left.now c.args.right.now (sym c.if-is_mark.ensures)
