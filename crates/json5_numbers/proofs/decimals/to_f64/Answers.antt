use Rattle.std.proofs.Common.{refl, sym, ◌∙◌}
use Rattle.std.specs.Float.{binary64}
use Rattle.json5_types.specs.NumberDecimals.{digits_in, exponent_in}
use Rattle.json5_numbers.proofs.SpelledNumbers.{nearest_read}
use Rattle.json5_numbers.proofs.decimals.to_f64.Goals as goal

pub returns-in_ok-text-in-None : goal.returns-in_ok-text-in-None
returns-in_ok-text-in-None c =
    let d = c.args.number.now in
    nearest_read binary64 d c.is_negative-negative.result (digits_in d) c.as_bytes.result.now (exponent_in d) c.scan.result c.to_float.result c.is_negative-negative.ensures.value refl refl c.is_negative-negative.ensures.normal
    (sym c.is_nan.ensures ∙ c.if-is_nan.false) (sym c.is_infinite.ensures ∙ c.if-is_infinite.false) (c.as_bytes.ensures.value ∙ c.in_ok-text-in-None.ensures) c.scan.ensures.parts c.to_float.ensures
