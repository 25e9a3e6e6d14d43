use Rattle.std.proofs.Common.{◌∙◌, ◌+◌, ◌*◌, ap, min, ◌^◌}
use Rattle.std.proofs.Math.Nat.{min_comm, min-le_right}
use Rattle.json5_grammar.specs.Language.Numbers.{spelled}
use Rattle.json5_tokens.proofs.DigitValues.{few_value, digits_past, capped_past, capped_done}
use Rattle.json5_tokens.proofs.numbers.slices.limited_value.Goals as goal

pub returns-then-few-bytes : goal.returns-then-few-bytes
returns-then-few-bytes c =
    let same = c.as_bytes-bytes.ensures.value in
    let few = c.front_digits-few in
    c.from.ensures ∙ few_value few.result.value few.result.len c.as_bytes-bytes.result.now (rw same c.requires) c.if-few-bytes.true few.ensures.small few.ensures.value ∙ ap (λ s. min (2 ^ 100) (spelled 10 0 s)) same

pub returns : goal.returns
returns c = capped_done c.loop-byte.value c.loop-byte.byte-index _ c.args.digits.now c.loop-byte.invariant.same c.loop-byte-test.false

pub loop-byte-preserved : goal.loop-byte-preserved
loop-byte-preserved c =
    let held = c.loop-byte.invariant in
    record {
      digits = digits_past _ c.loop-byte.byte-index held.digits c.loop-byte-test.true;
      bound = rw c.min-value.ensures (min-le_right (c.loop-byte.value * 10 + c.from-in-loop-byte.result) (2 ^ 100));
      same = capped_past c.loop-byte.value c.min-value.result _ c.loop-byte.byte-index held.digits c.loop-byte-test.true (c.min-value.ensures ∙ min_comm (c.loop-byte.value * 10 + c.from-in-loop-byte.result) (2 ^ 100) ∙ ap (λ z. min (2 ^ 100) (c.loop-byte.value * 10 + z)) c.from-in-loop-byte.ensures) ∙ held.same;
    }
