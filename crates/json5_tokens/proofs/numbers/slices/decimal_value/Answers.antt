use Rattle.std.proofs.Common.{◌+◌, ◌*◌, ap, ◌∙◌}
use Rattle.json5_tokens.proofs.DigitValues.{digit_at, digits_past, checked_past}
use Rattle.json5_tokens.proofs.numbers.slices.decimal_value.Goals as goal

pub overflow_sub-byte : goal.overflow_sub-byte
overflow_sub-byte c = digit_at _ c.loop-byte.byte-index c.loop-byte.invariant.digits c.loop-byte-test.true

pub loop-byte-preserved : goal.loop-byte-preserved
loop-byte-preserved c = record {
  digits = digits_past _ c.loop-byte.byte-index c.loop-byte.invariant.digits c.loop-byte-test.true;
  same = checked_past c.loop-byte.value c.in_ok-value.value _ c.loop-byte.byte-index c.loop-byte.invariant.digits c.loop-byte-test.true (c.in_ok-value.ensures.value ∙ ap (λ n. c.loop-byte.value * 10 + n) c.from.ensures) c.in_ok-value.ensures.bound ∙ c.loop-byte.invariant.same;
}
