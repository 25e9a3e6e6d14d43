use Rattle.std.proofs.Common.{◌≤◌, ◌+◌, cond, drop, length, pos, ap, ◌∙◌, arith}
use Rattle.std.proofs.lemmas.List.{length-drop}
use Rattle.std.specs.Float.{binary64}
use Rattle.json5_grammar.specs.Language.Numbers.{finite}
use Rattle.json5_numbers.specs.Floats.{nearest_to}
use Rattle.json5_numbers.proofs.PrintedFloats.{is_minus, printed_nearest, far_is_zero}
use Rattle.json5_numbers.proofs.from_floats.from_finite.Goals as goal

pub returns-in_ok-to_decimal-in-Some : goal.returns-in_ok-to_decimal-in-Some
returns-in_ok-to_decimal-in-Some c =
    let m = c.split_sign-negative.result.0 in
    ap (nearest_to binary64) c.in_ok-to_decimal-in-Some.ensures ∙ c.in-Some.ensures
    ∙ printed_nearest c.format_finite-text.result.now c.split_sign-negative.result.1.now c.args.number m c.scan-numeral.result c.format_finite-text.ensures.plain c.format_finite-text.ensures.parses (c.split_sign-negative.ensures.sign ∙ ap is_minus c.as_bytes.ensures.value) (c.split_sign-negative.ensures.rest ∙ ap (λ t. drop (cond m 1 0) t) c.as_bytes.ensures.value) c.scan-numeral.ensures.parts

pub returns-in-None : goal.returns-in-None
returns-in-None c =
    let m = c.split_sign-negative.result.0 in
    let p = c.scan-numeral.result in
    let few : length p.whole + length p.fraction ≤ 25 = omega (arith, c.scan-numeral.ensures.counted, c.scan-numeral.ensures.within, ap length c.split_sign-negative.ensures.rest, length-drop (cond m 1 0) c.as_bytes.result.now, c.as_bytes.ensures.len, c.format_finite-text.ensures.short) in
    ap (nearest_to binary64) c.into_decimal.ensures ∙ ap (λ s. nearest_to binary64 (finite m s (pos 0))) c.empty.ensures.none
    ∙ far_is_zero m p c.args.number c.scan-numeral.ensures.digits.0 c.scan-numeral.ensures.digits.1 few c.in-None.ensures c.requires
    (printed_nearest c.format_finite-text.result.now c.split_sign-negative.result.1.now c.args.number m p c.format_finite-text.ensures.plain c.format_finite-text.ensures.parses (c.split_sign-negative.ensures.sign ∙ ap is_minus c.as_bytes.ensures.value) (c.split_sign-negative.ensures.rest ∙ ap (λ t. drop (cond m 1 0) t) c.as_bytes.ensures.value) c.scan-numeral.ensures.parts)
