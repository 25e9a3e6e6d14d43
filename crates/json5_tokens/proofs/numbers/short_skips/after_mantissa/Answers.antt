use Rattle.std.proofs.Common.{◌≤◌, length, subst, sym, ◌∙◌, rules}
use Rattle.json5_tokens.specs.ShortWays.{IsInFront}
use Rattle.json5_tokens.proofs.ShortNumberSkips.{integer_follows, point_follows}
use Rattle.json5_tokens.proofs.numbers.short_skips.after_mantissa.Goals as goal

pub returns-then-not-is_in_front : goal.returns-then-not-is_in_front
returns-then-not-is_in_front c =
    let few : length c.split_digits.result.0.now ≤ 1000 = search rules in
    integer_follows c.args.text.now c.split_digits.result.0.now c.split_digits.result.1.now c.split_digits.ensures (sym c.is_integer.ensures ∙ c.if-not-is_integer.false) few

pub returns : goal.returns
returns c =
    let few : length c.split_digits.result.0.now ≤ 1000 = search rules in
    let few_after : length c.split_digits-2.result.0.now ≤ 1000 = search rules in
    point_follows c.args.text.now c.split_digits.result.0.now c.split_digits.result.1.now c.split_at.result.1.now c.split_digits-2.result.0.now c.split_digits-2.result.1.now c.split_digits.ensures (sym c.is_integer.ensures ∙ c.if-not-is_integer.false) few
    (subst (IsInFront 46 c.split_digits.result.1.now) c.if-not-is_in_front.false c.is_in_front.ensures) c.split_at.ensures.back c.split_digits-2.ensures few_after
