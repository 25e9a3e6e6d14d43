use Rattle.std.proofs.Common.{◌∙◌, refl, subst}
use Rattle.std.proofs.lemmas.List.{append-nil}
use Rattle.json5_grammar.specs.Language.Characters.{is_digit, Each, no_char}
use Rattle.json5_grammar.proofs.CharacterTests.{front_each}
use Rattle.json5_types.proofs.AsciiRuns.{something_follows, nothing_follows}
use Rattle.json5_types.proofs.NumberZeros.{widened}
use Rattle.json5_types.proofs.decimal.Decimal.finite.Goals as goal

pub returns-then-not-is_empty : goal.returns-then-not-is_empty
returns-then-not-is_empty c =
    let k = rw c.split_digits.ensures.rest_bytes at c.is_empty.ensures in
    record { some = (λ h. absurd (cc), λ p. absurd (something_follows is_digit c.args.digits.now c.is_empty.result k c.if-not-is_empty.true p.0)); value = tt }

pub new-requires-clause-before_digits : goal.new-requires-clause-before_digits
new-requires-clause-before_digits c = rw c.split_digits.ensures.front_bytes (front_each is_digit c.args.digits.now)

pub new-requires-clause-after_digits : goal.new-requires-clause-after_digits
new-requires-clause-after_digits c = no_char

pub returns-in_default : goal.returns-in_default
returns-in_default c =
    let k = rw c.split_digits.ensures.rest_bytes at c.is_empty.ensures in
    let all = nothing_follows is_digit c.args.digits.now c.is_empty.result k c.if-not-is_empty.false in
    let e = widened c.args.exponent c.from.result c.ranges.exponent c.from.ensures in
    let d = append-nil c.split_digits.result.0.now ∙ c.split_digits.ensures.front_bytes ∙ all in
    let y = rw (d, e) at c.in_default.ensures.in_range in
    record { some = (λ h. absurd (cc), λ p. y.1 p.1); value = tt }

pub returns : goal.returns
returns c =
    let k = rw c.split_digits.ensures.rest_bytes at c.is_empty.ensures in
    let all = nothing_follows is_digit c.args.digits.now c.is_empty.result k c.if-not-is_empty.false in
    let e = widened c.args.exponent c.from.result c.ranges.exponent c.from.ensures in
    let d = append-nil c.split_digits.result.0.now ∙ c.split_digits.ensures.front_bytes ∙ all in
    let y = rw (d, e) at c.in-Some.ensures.in_range in
    record {
      some = (λ h. (subst (Each is_digit) all (front_each is_digit c.args.digits.now), y.0 refl), λ p. refl);
      value = c.in_ok-to_decimal.ensures ∙ (rw (d, e) at c.in-Some.ensures.value);
    }
