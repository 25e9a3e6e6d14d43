use Rattle.std.proofs.Common.{◌≡◌, ◌∷◌, refl, subst, sym}
use Rattle.std.specs.Str.{chars}
use Rattle.json5_tokens.specs.NumberParts.{run_of}
use Rattle.json5_tokens.specs.ShortWays.{IsInFront}
use Rattle.json5_tokens.proofs.DecimalRuns.{run_escape_free, run_pointed, rest_past_digits, ends_pointed, whole_literal}
use Rattle.json5_tokens.proofs.DigitsGathered.{if_read, gathers_plain, gathers_pointed}
use Rattle.json5_tokens.proofs.numbers.decimal_literals.gather_decimal_literal.Goals as goal

pub returns-then-not-is_in_front-clause-literal : goal.returns-then-not-is_in_front-clause-literal
returns-then-not-is_in_front-clause-literal c =
    let other = subst (IsInFront 46 c.in_ok-before.rest.now) c.if-not-is_in_front.true c.is_in_front.ensures in
    if_read _ _ _ (whole_literal c.args.text.now c.in_ok-before.rest.now _ _ _ (run_escape_free (chars c.args.text.now) _ _ c.in_ok-before.ensures.split.front c.in_ok-before.ensures.split.rest other)
    (rw c.in_ok-before.ensures.split.rest (rest_past_digits (chars c.args.text.now))) c.read_without_point.ensures)

pub returns-then-not-is_in_front-clause-gathered : goal.returns-then-not-is_in_front-clause-gathered
returns-then-not-is_in_front-clause-gathered c = gathers_plain c.in_ok-before.before.now c.in_ok-before.rest.now (run_of (chars c.in_ok-before.rest.now)) _ c.in_ok-before.ensures.gathered c.read_without_point.ensures

pub returns-clause-literal : goal.returns-clause-literal
returns-clause-literal c =
    let point = subst (IsInFront 46 c.in_ok-before.rest.now) c.if-not-is_in_front.false c.is_in_front.ensures in
    let pointed : chars c.in_ok-before.rest.now ≡ 46 ∷ chars c.split_at.result.1.now = rw c.split_at.ensures.back point.1 in
    if_read _ _ _ (whole_literal c.args.text.now c.in_ok-after.rest.now _ _ _
    (run_pointed (chars c.args.text.now) _ _ (chars c.split_at.result.1.now) _ _ 46 c.in_ok-before.ensures.split.front c.in_ok-before.ensures.split.rest pointed refl c.in_ok-after.ensures.split.front c.in_ok-after.ensures.split.rest)
    (sym (ends_pointed (chars c.args.text.now) _ (chars c.split_at.result.1.now) _ 46 c.in_ok-before.ensures.split.rest pointed refl c.in_ok-after.ensures.split.rest))
    c.read_with_point.ensures)

pub returns-clause-gathered : goal.returns-clause-gathered
returns-clause-gathered c = gathers_pointed c.in_ok-before.before.now c.in_ok-after.after.now c.in_ok-after.rest.now (run_of (chars c.in_ok-after.rest.now)) _ c.in_ok-before.ensures.gathered c.in_ok-after.ensures.gathered c.read_with_point.ensures
