use Rattle.std.proofs.Common.{sym, ◌∙◌}
use Rattle.json5_tokens.proofs.ScanTokens.{leaves_rest}
use Rattle.json5_tokens.proofs.ShortSteps.{stepped}
use Rattle.json5_tokens.proofs.scanner.Scanner.short_step.Goals as goal

pub set_remaining-requires : goal.set_remaining-requires
set_remaining-requires g c =
    let k = c.in-Some.ensures in
    leaves_rest k.passed c.in-Some.rest.now (sym c.rest.ensures ∙ k.split) k.text_rest

pub returns-then-at_closing : goal.returns-then-at_closing
returns-then-at_closing g c = stepped c.args.self.now c.set_remaining.new.self _ c.in-Some.ensures c.rest.ensures c.set_remaining.ensures c.if-at_closing.true

pub returns-else-at_closing : goal.returns-else-at_closing
returns-else-at_closing g c = stepped c.args.self.now c.set_remaining.new.self _ c.in-Some.ensures c.rest.ensures c.set_remaining.ensures c.if-at_closing.false
