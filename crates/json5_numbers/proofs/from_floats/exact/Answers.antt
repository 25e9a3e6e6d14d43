use Rattle.std.proofs.Common.{◌≡◌, ap, sym, subst, ◌∙◌, ◌++◌}
use Rattle.json5_grammar.specs.Language.Characters.{is_digit, Each}
use Rattle.json5_types.specs.Exponents.{IsSmallExponent}
use Rattle.json5_types.specs.NumberDecimals.{IsFiniteIfInRange}
use Rattle.json5_numbers.proofs.SpelledNumbers.{each_digit}
use Rattle.json5_numbers.proofs.PrintedFloats.{small_place, held_small, found_is}
use Rattle.json5_numbers.proofs.from_floats.exact.Goals as goal

pub new-requires-clause-before_digits : goal.new-requires-clause-before_digits
new-requires-clause-before_digits c = subst (Each is_digit) (sym c.as_text.ensures) (each_digit c.whole.result.now c.whole.ensures.digits)

pub new-requires-clause-after_digits : goal.new-requires-clause-after_digits
new-requires-clause-after_digits c = subst (Each is_digit) (sym c.as_text-2.ensures) (each_digit c.fraction.result.now c.fraction.ensures.digits)

pub new-requires-clause-small : goal.new-requires-clause-small
new-requires-clause-small c =
    let small = small_place c.args.numeral.now c.in_ok-exponent.exponent c.in_ok-exponent.ensures.value c.in_ok-exponent.ensures.bound c.requires in
    subst IsSmallExponent (sym (held_small c.in_ok-exponent.exponent small)) small

pub returns : goal.returns
returns c =
    let front = c.as_text.result.now in
    let back = c.as_text-2.result.now in
    let same : front ++ back ≡ c.args.numeral.now.whole ++ c.args.numeral.now.fraction = ap (λ s. s ++ back) (c.as_text.ensures ∙ c.whole.ensures.value) ∙ ap (λ s. c.args.numeral.now.whole ++ s) (c.as_text-2.ensures ∙ c.fraction.ensures.value) in
    let small = small_place c.args.numeral.now c.in_ok-exponent.exponent c.in_ok-exponent.ensures.value c.in_ok-exponent.ensures.bound c.requires in
    found_is c.args.negative c.args.numeral.now (front ++ back) c.new.result same c.requires
    (subst (λ e. IsFiniteIfInRange c.args.negative (front ++ back) e c.new.result) (held_small c.in_ok-exponent.exponent small ∙ c.in_ok-exponent.ensures.value) c.new.ensures)
