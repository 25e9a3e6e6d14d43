use Rattle.std.proofs.Common.{◌≤◌, ◌<◌, length, rules}
use Rattle.json5_tokens.proofs.ShortNumberSkips.{power_follows}
use Rattle.json5_tokens.proofs.numbers.short_skips.after_exponent_digits.Goals as goal

pub returns : goal.returns
returns c =
    let some : 0 < length c.split_digits.result.0.now = search rules in
    let few : length c.split_digits.result.0.now ≤ 4 = search rules in
    power_follows c.args.text.now c.skip_sign.result.now c.split_digits.result.0.now c.split_digits.result.1.now c.skip_sign.ensures c.split_digits.ensures some few
