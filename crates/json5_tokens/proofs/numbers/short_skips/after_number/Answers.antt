use Rattle.std.proofs.Common.{drop, subst}
use Rattle.json5_grammar.specs.Language.Characters.{NotBegun}
use Rattle.json5_tokens.specs.ByteRuns.{lengthens_digits}
use Rattle.json5_tokens.proofs.ShortNumberSkips.{number_follows}
use Rattle.json5_tokens.proofs.numbers.short_skips.after_number.Goals as goal

pub returns : goal.returns
returns c =
    let ends = subst (λ z. NotBegun lengthens_digits (drop 0 z)) c.as_bytes.ensures.value (c.number_goes_on.ensures c.if-number_goes_on.false) in
    number_follows c.args.text.now c.skip_sign.result.now c.in_ok-after_mantissa.field-0.now c.in_ok-rest.rest.now c.skip_sign.ensures c.in_ok-after_mantissa.ensures c.in_ok-rest.ensures ends
