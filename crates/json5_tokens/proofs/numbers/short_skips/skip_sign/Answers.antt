use Rattle.std.proofs.Common.{subst}
use Rattle.json5_tokens.specs.ShortWays.{IsInFront}
use Rattle.json5_tokens.proofs.ShortNumberSkips.{minus_follows, plus_follows, none_follows}
use Rattle.json5_tokens.proofs.numbers.short_skips.skip_sign.Goals as goal

pub returns-then-is_in_front : goal.returns-then-is_in_front
returns-then-is_in_front c = minus_follows c.args.text.now c.split_at.result.1.now (subst (IsInFront 45 c.args.text.now) c.if-is_in_front.true c.is_in_front.ensures) c.split_at.ensures.back

pub returns-then-is_in_front-2 : goal.returns-then-is_in_front-2
returns-then-is_in_front-2 c =
    plus_follows c.args.text.now c.split_at-then-is_in_front-2.result.1.now (subst (IsInFront 43 c.args.text.now) c.if-is_in_front-2.true c.is_in_front-2.ensures) c.split_at-then-is_in_front-2.ensures.back

pub returns : goal.returns
returns c = none_follows c.args.text.now
