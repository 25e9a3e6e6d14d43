use Rattle.std.proofs.Common.{◌∙◌, sym}
use mathlib.Core.Bool.{true≢false}
use Rattle.json5_grammar.specs.Language.Numbers.{signed, spelled}
use Rattle.json5_grammar.proofs.CharacterTests.{in_whole_yes, in_whole_true}
use Rattle.json5_tokens.specs.NumberParts.{raised_of}
use Rattle.json5_tokens.proofs.DecimalLiteralValues.{whole_at, value_found, value_past}
use Rattle.json5_tokens.proofs.numbers.slices.whole_number.Goals as goal

pub returns-in_err-magnitude-clause-whole : goal.returns-in_err-magnitude-clause-whole
returns-in_err-magnitude-clause-whole c =
    let l = c.args.literal.now in
    let w = whole_at c.args.negative l.before.now (λ digits. digits.now) raised_of l.after l.exponent (sym c.is_some.ensures ∙ c.if-is_some.false) (sym c.is_some-else-is_some.ensures ∙ c.if-is_some-2.false) in
    rw c.from_residual.ensures (λ h. absurd (true≢false (sym h)), λ h. absurd (true≢false (sym h ∙ w ∙ value_past l.before.now c.args.negative c.in_err-magnitude.ensures)))

pub returns : goal.returns
returns c =
    let l = c.args.literal.now in
    let w = whole_at c.args.negative l.before.now (λ digits. digits.now) raised_of l.after l.exponent (sym c.is_some.ensures ∙ c.if-is_some.false) (sym c.is_some-else-is_some.ensures ∙ c.if-is_some-2.false) in
    let v = value_found l.before.now c.in_ok-magnitude.magnitude c.in_ok-magnitude.ensures in
    record {
      whole = (λ h. w ∙ in_whole_true (signed c.args.negative (spelled 10 0 l.before.now)) (rw v at (c.from_parts.ensures.in_range.0 h)), λ h. c.from_parts.ensures.in_range.1 (rw v (in_whole_yes (signed c.args.negative (spelled 10 0 l.before.now)) (sym w ∙ h))));
      value = rw v at c.from_parts.ensures.value;
    }
