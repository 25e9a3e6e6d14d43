use Rattle.std.proofs.Common.{subst}
use Rattle.json5_tokens.specs.ShortWays.{IsInFront}
use Rattle.json5_tokens.proofs.ShortSteps.{sign_found, sign_leaves, sign_taken}
use Rattle.json5_tokens.proofs.scanner.Scanner.short_sign.Goals as goal

pub set_remaining-requires : goal.set_remaining-requires
set_remaining-requires g c =
    let front = subst (IsInFront c.args.sign c.in-Some.rest.now) c.if-not-is_in_front.false c.is_in_front.ensures in
    sign_leaves c.args.self.now (sign_found c.args.sign c.rest.result.now c.in-Some.rest.now c.in-Some.ensures front) c.rest.ensures

pub returns : goal.returns
returns g c =
    let front = subst (IsInFront c.args.sign c.in-Some.rest.now) c.if-not-is_in_front.false c.is_in_front.ensures in
    sign_taken c.args.self.now c.set_remaining.new.self (sign_found c.args.sign c.rest.result.now c.in-Some.rest.now c.in-Some.ensures front) c.rest.ensures c.set_remaining.ensures
