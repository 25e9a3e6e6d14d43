use Rattle.std.proofs.Common.{◌∙◌, ap}
use Rattle.json5_schema.specs.Refusals.{are_few_digits}
use Rattle.json5_schema.proofs.FewDigits.{parsed, shown_digits}
use Rattle.json5_schema.proofs.shape.is_short.Goals as goal

pub returns : goal.returns
returns c =
    let digits = c.digits.result.now in
    c.is_ok.ensures.value ∙ (parsed digits c.parse.result (shown_digits _ digits c.digits.ensures.value c.digits.ensures.normal) c.parse.ensures.value.0 ∙ ap are_few_digits c.digits.ensures.value)
