use Rattle.std.proofs.Common.{refl, subst}
use Rattle.json5_tokens.specs.ShortWays.{IsInFront}
use Rattle.json5_tokens.proofs.ShortNumberSkips.{exponent_if, no_exponent_follows}
use Rattle.json5_tokens.proofs.numbers.short_skips.after_exponent.Goals as goal

pub returns : goal.returns
returns c = no_exponent_follows c.args.text.now c.utf8.text

pub returns-then-is_in_front : goal.returns-then-is_in_front
returns-then-is_in_front c =
    exponent_if c.args.text.now c.split_at.result.1.now 101 c.after_exponent_digits.result refl (subst (IsInFront 101 c.args.text.now) c.if-is_in_front.true c.is_in_front.ensures) c.split_at.ensures.back c.after_exponent_digits.ensures

pub returns-then-is_in_front-2 : goal.returns-then-is_in_front-2
returns-then-is_in_front-2 c =
    exponent_if c.args.text.now c.split_at-then-is_in_front-2.result.1.now 69 c.after_exponent_digits-then-is_in_front-2.result refl (subst (IsInFront 69 c.args.text.now) c.if-is_in_front-2.true c.is_in_front-2.ensures)
    c.split_at-then-is_in_front-2.ensures.back c.after_exponent_digits-then-is_in_front-2.ensures
