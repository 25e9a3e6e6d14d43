use Rattle.std.proofs.Common.{subst}
use Rattle.json5_grammar.specs.Language.Characters.{comma_sign}
use Rattle.json5_tokens.specs.ShortWays.{IsInFront}
use Rattle.json5_tokens.proofs.ShortSteps.{entry_found, closing_found, comma_found}
use Rattle.json5_tokens.proofs.scanner.find_step.Goals.{then-closes-via-then-closes, then-closes-via-else-closes+then-not-comma_due}
use Rattle.json5_tokens.proofs.scanner.find_step.Goals as goal

pub returns-then-closes : goal.returns-then-closes
returns-then-closes c =
    let text = c.args.text.now in
    let solid = c.in_ok-solid.solid.now in
    let closing = c.args.closing in
    elim c.then-closes.branch [
      | then-closes-via-then-closes w ↦ rw w.if-closes.true (closing_found text solid closing c.args.comma_due c.in_ok-solid.ensures (subst (IsInFront closing solid) w.if-closes.true c.is_in_front-closes.ensures))
      | then-closes-via-else-closes+then-not-comma_due w ↦ rw w.if-not-comma_due.true (entry_found text solid closing _ c.in_ok-solid.ensures c.is_in_front-closes.ensures)
    ]

pub returns : goal.returns
returns c =
    let comma = subst (IsInFront comma_sign c.in_ok-solid.solid.now) c.if-not-is_in_front.false c.is_in_front.ensures in
    rw c.if-not-comma_due.false (comma_found c.args.text.now c.in_ok-solid.solid.now c.split_at.result.1.now c.in_ok-rest.rest.now c.args.closing _ c.in_ok-solid.ensures comma c.split_at.ensures.back
    (entry_found c.split_at.result.1.now c.in_ok-rest.rest.now c.args.closing _ c.in_ok-rest.ensures c.is_in_front-2.ensures))
