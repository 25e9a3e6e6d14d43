use Rattle.std.proofs.Common.{◌≡◌, ◌<◌, ◌≤◌, ◌+◌, ◌*◌, refl, ap, sym, ◌∙◌, arith}
use Rattle.std.specs.Char.{digit_value}
use Rattle.std.specs.List.{slice_get}
use Rattle.json5_tokens.proofs.NumberSteps.{hex_end, hex_other, hex_more, hex_past}
use Rattle.json5_tokens.proofs.ScanEscapes.{no_byte, no_digit_front, digit_cut, digit_begins}
use Rattle.json5_tokens.proofs.numbers.hexadecimal.hexadecimal_digits.Goals as goal

pub returns : goal.returns
returns c =
    let none = c.in_default.ensures.value ∙ ap (λ s. slice_get s 0) c.as_bytes.ensures.value in
    record { read = sym c.loop-byte.invariant.same ∙ hex_end c.loop-byte.value _ (no_byte _ none); bound = c.loop-byte.invariant.bound; text = c.loop-byte.invariant.text }

pub returns-in_default-to_digit : goal.returns-in_default-to_digit
returns-in_default-to_digit c =
    let first = c.in-Some.ensures.value ∙ ap (λ s. slice_get s 0) c.as_bytes.ensures.value in
    let h : 16 ≤ digit_value c.in-Some.byte.now = grind (arith, c.from.ensures, c.in_default-to_digit.ensures.value) in
    let k = no_digit_front _ c.in-Some.byte.now c.loop-byte.invariant.text first h in
    record { read = sym c.loop-byte.invariant.same ∙ hex_other c.loop-byte.value k.0 _ k.1 k.2 k.3; bound = c.loop-byte.invariant.bound; text = c.loop-byte.invariant.text }

pub split_at-requires : goal.split_at-requires
split_at-requires c =
    let first = c.in-Some.ensures.value ∙ ap (λ s. slice_get s 0) c.as_bytes.ensures.value in
    digit_cut _ c.in-Some.byte.now c.loop-byte.invariant.text first (grind (arith, c.from.ensures, c.in-Some-to_digit.ensures.value))

pub returns-in_default-one_more : goal.returns-in_default-one_more
returns-in_default-one_more c =
    let first = c.in-Some.ensures.value ∙ ap (λ s. slice_get s 0) c.as_bytes.ensures.value in
    let i : digit_value c.in-Some.byte.now < 16 = grind (arith, c.from.ensures, c.in-Some-to_digit.ensures.value) in
    let d : c.in-Some-to_digit.digit ≡ digit_value c.in-Some.byte.now = grind (arith, c.from.ensures, c.in-Some-to_digit.ensures.value) in
    let more = digit_begins c.loop-byte.rest.now _ c.in-Some.byte.now c.loop-byte.invariant.text first i refl in
    record { read = sym c.loop-byte.invariant.same ∙ hex_past c.loop-byte.value c.in-Some.byte.now _ _ more.chars i (grind (arith, d, c.in_default-one_more.ensures)); text = c.loop-byte.invariant.text }

pub loop-byte-preserved : goal.loop-byte-preserved
loop-byte-preserved c =
    let first = c.in-Some.ensures.value ∙ ap (λ s. slice_get s 0) c.as_bytes.ensures.value in
    let i : digit_value c.in-Some.byte.now < 16 = grind (arith, c.from.ensures, c.in-Some-to_digit.ensures.value) in
    let d : c.in-Some-to_digit.digit ≡ digit_value c.in-Some.byte.now = grind (arith, c.from.ensures, c.in-Some-to_digit.ensures.value) in
    let more = digit_begins c.loop-byte.rest.now c.split_at.result.1.now c.in-Some.byte.now c.loop-byte.invariant.text first i c.split_at.ensures.back in
    let k = c.in-Some-one_more.ensures in
    record {
      text = more.text;
      same = sym (hex_more c.loop-byte.value c.in-Some-one_more.more c.in-Some.byte.now _ _ more.chars i (k.value ∙ ap (λ z. c.loop-byte.value * 16 + z) d) k.bound) ∙ c.loop-byte.invariant.same;
      bound = k.bound;
    }
