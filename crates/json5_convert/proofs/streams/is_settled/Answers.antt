use Rattle.std.proofs.Common.{sym, ◌∙◌}
use Rattle.json5_convert.proofs.StreamsTaken.{settles, goes_further}
use Rattle.json5_convert.proofs.streams.is_settled.Goals as goal

pub returns-in-Some : goal.returns-in-Some
returns-in-Some c = λ t y e. settles c.args.value.now c.in-Some.value c.in-Some.is (sym c.is_number.ensures ∙ c.if-not-is_number.true) y

pub returns-in_default : goal.returns-in_default
returns-in_default c = λ t y e. goes_further c.args.next c.args.value.now (sym c.is_some.ensures ∙ t) y e
