use Rattle.std.proofs.Common.{◌∙◌, sym}
use Rattle.std.specs.Str.{chars}
use Rattle.json5_types.proofs.NumberZeros.{is_none, is_some}
use Rattle.json5_tokens.proofs.DecimalLiteralParts.{exponent_no_digit, exponent_more, exponent_found}
use Rattle.json5_tokens.proofs.DecimalRuns.{front_is, more_follows, none_follows, ends_after}
use Rattle.json5_tokens.specs.NumberParts.{run_of}
use Rattle.json5_tokens.proofs.numbers.decimal_literals.read_exponent_digits.Goals as goal

pub returns-then-is_empty : goal.returns-then-is_empty
returns-then-is_empty c =
    let x = chars c.args.text.now in
    exponent_no_digit c.args.negative (run_of x) _ (front_is x _ c.split_digits.ensures.front) (is_none _ _ c.is_empty.ensures c.if-is_empty.true)

pub returns-then-run_goes_on : goal.returns-then-run_goes_on
returns-then-run_goes_on c =
    let x = chars c.args.text.now in
    exponent_more c.args.negative (run_of x) (more_follows x _ c.split_digits.ensures.rest (sym c.run_goes_on.ensures ∙ c.if-run_goes_on.true))

pub returns : goal.returns
returns c =
    let x = chars c.args.text.now in
    let none = sym c.run_goes_on.ensures ∙ c.if-run_goes_on.false in
    record {
      read = exponent_found c.args.negative (run_of x) _ (front_is x _ c.split_digits.ensures.front) (is_some _ _ c.is_empty.ensures c.if-is_empty.false) (none_follows x _ c.split_digits.ensures.rest none);
      digits = c.split_digits.ensures.digits;
      ends = record { follows = ends_after x _ c.split_digits.ensures.rest none; text = c.split_digits.ensures.text };
    }
