use Rattle.std.proofs.Common.{◌≡◌, arith, refl, ap, sym, ◌∙◌}
use mathlib.Core.Bool.{true≢false}
use Rattle.std.specs.Char.{digit_value}
use Rattle.std.specs.Str.{chars}
use Rattle.json5_grammar.specs.Language.Numbers.{whole}
use Rattle.json5_grammar.specs.Model.Reading.{got}
use Rattle.json5_grammar.specs.Model.ReadNumbers.{hex_digits}
use Rattle.json5_tokens.proofs.NumberSteps.{failed_here, hexadecimal_other, hexadecimal_past, hexadecimal_large, hexadecimal_whole}
use Rattle.json5_tokens.proofs.numbers.hexadecimal.read_hex_integer.Goals as goal

pub returns-in_default-to_digit : goal.returns-in_default-to_digit
returns-in_default-to_digit c = record {
  refused = failed_here _ _ c.args.text.now c.utf8.text (hexadecimal_other (chars c.args.start.now) _ _ c.args.negative c.in-Some.first c.in-Some.ensures.chars (grind (arith, c.in_default-to_digit.ensures.value)));
  known = tt;
}

pub returns-in-None : goal.returns-in-None
returns-in-None c =
    let n = c.in-None.ensures.in_range in
    let d : c.in-Some-to_digit.digit ≡ digit_value c.in-Some.first = grind (arith, c.in-Some-to_digit.ensures.value) in
    let read = ap (λ k. hex_digits k (chars c.in-Some.digits.now)) (sym d) ∙ c.in-Ok.ensures.read in
    record { refused = failed_here _ _ c.args.start.now c.utf8.start (hexadecimal_large (chars c.args.start.now) _ _ c.args.negative c.in-Some.first c.in-Ok.magnitude _ c.in-Some.ensures.chars (grind (arith, c.in-Some-to_digit.ensures.value)) read c.in-Ok.ensures.bound (λ h. true≢false (sym (n.1 h)))); known = tt }

pub returns-in-Err : goal.returns-in-Err
returns-in-Err c =
    let d : c.in-Some-to_digit.digit ≡ digit_value c.in-Some.first = grind (arith, c.in-Some-to_digit.ensures.value) in
    let read = ap (λ k. hex_digits k (chars c.in-Some.digits.now)) (sym d) ∙ c.in-Err.ensures.read in
    record {
      refused = failed_here _ _ c.in-Err.rest.now c.in-Err.ensures.text (hexadecimal_past (chars c.args.start.now) _ _ c.args.negative c.in-Some.first _ _ c.in-Some.ensures.chars (grind (arith, c.in-Some-to_digit.ensures.value)) read);
      known = tt;
    }

pub returns-in-Some-from_parts : goal.returns-in-Some-from_parts
returns-in-Some-from_parts c =
    let found = c.in-Some-from_parts.ensures in
    let d : c.in-Some-to_digit.digit ≡ digit_value c.in-Some.first = grind (arith, c.in-Some-to_digit.ensures.value) in
    let read = ap (λ k. hex_digits k (chars c.in-Some.digits.now)) (sym d) ∙ c.in-Ok.ensures.read in
    record {
      read = hexadecimal_whole (chars c.args.start.now) _ _ c.args.negative c.in-Some.first c.in-Ok.magnitude _ c.in-Some.ensures.chars (grind (arith, c.in-Some-to_digit.ensures.value)) read (found.in_range.0 refl)
          ∙ ap (λ z. got (whole z) (chars c.in-Ok.rest.now)) (sym found.value);
      text = c.in-Ok.ensures.text;
    }
