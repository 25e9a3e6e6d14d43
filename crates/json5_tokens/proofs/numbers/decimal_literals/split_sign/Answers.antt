use Rattle.std.proofs.Common.{subst}
use Rattle.std.specs.Str.{chars}
use Rattle.json5_tokens.specs.ShortWays.{IsInFront}
use Rattle.json5_tokens.proofs.DecimalRuns.{minus_split, plus_split, no_sign_split}
use Rattle.json5_tokens.proofs.numbers.decimal_literals.split_sign.Goals as goal

pub returns-then-is_in_front-clause-sign : goal.returns-then-is_in_front-clause-sign
returns-then-is_in_front-clause-sign c =
    let found = subst (IsInFront 45 c.args.text.now) c.if-is_in_front.true c.is_in_front.ensures in
    minus_split (chars c.args.text.now) (chars c.split_at.result.1.now) (rw c.split_at.ensures.back found.1)

pub returns-then-is_in_front-2-clause-sign : goal.returns-then-is_in_front-2-clause-sign
returns-then-is_in_front-2-clause-sign c =
    let found = subst (IsInFront 43 c.args.text.now) c.if-is_in_front-2.true c.is_in_front-2.ensures in
    plus_split (chars c.args.text.now) (chars c.split_at-then-is_in_front-2.result.1.now) (rw c.split_at-then-is_in_front-2.ensures.back found.1)

pub returns-clause-sign : goal.returns-clause-sign
returns-clause-sign c =
    no_sign_split (chars c.args.text.now) (subst (IsInFront 45 c.args.text.now) c.if-is_in_front.false c.is_in_front.ensures) (subst (IsInFront 43 c.args.text.now) c.if-is_in_front-2.false c.is_in_front-2.ensures)
