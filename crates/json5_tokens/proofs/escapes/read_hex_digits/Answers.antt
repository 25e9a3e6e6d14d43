use Rattle.std.proofs.Common.{◌≡◌, ◌<◌, ◌≤◌, ◌+◌, ◌-◌, ap, sym, ◌∙◌, arith}
use Rattle.std.specs.Char.{digit_value}
use Rattle.std.specs.List.{slice_get}
use Rattle.json5_grammar.specs.declared.error_code.ErrorCode.TheVariants.{InvalidEscapeSequence}
use Rattle.json5_tokens.specs.Outcome.{outcome}
use Rattle.json5_tokens.proofs.ScanEscapes.{refused_here, hex_done, hex_no_byte, hex_no_digit, hex_more, digit_cut, digit_begins, three_digits, one_more}
use Rattle.json5_tokens.proofs.escapes.read_hex_digits.Goals as goal

pub returns-in_default-clause-read : goal.returns-in_default-clause-read
returns-in_default-clause-read c =
    let none = c.in_default.ensures.value ∙ ap (λ s. slice_get s 0) c.as_bytes.ensures.value in
    record { refused = ap outcome (sym c.loop-wanted.invariant.read ∙ hex_no_byte c.loop-wanted.wanted c.loop-wanted.value _ _ c.loop-wanted-test.true none); known = tt }

pub returns-in_default-to_digit-clause-read : goal.returns-in_default-to_digit-clause-read
returns-in_default-to_digit-clause-read c =
    let first = c.in-Some.ensures.value ∙ ap (λ s. slice_get s 0) c.as_bytes.ensures.value in
    let h : 16 ≤ digit_value c.in-Some.byte.now = grind (arith, c.from.ensures, c.in_default-to_digit.ensures.value) in
    rw c.invalid.ensures
    (record {
      refused = refused_here _ InvalidEscapeSequence c.args.escape.now c.utf8.escape
          (sym c.loop-wanted.invariant.read ∙ hex_no_digit c.loop-wanted.wanted c.loop-wanted.value c.in-Some.byte.now _ _ c.loop-wanted-test.true c.loop-wanted.invariant.text first h);
      known = tt;
    })

pub overflow_mul-value : goal.overflow_mul-value
overflow_mul-value c =
    let h : c.loop-wanted.value < 4096 = three_digits (c.args.count - c.loop-wanted.wanted) c.loop-wanted.value (omega arith) c.loop-wanted.invariant.small in
    omega arith

pub overflow_add-value : goal.overflow_add-value
overflow_add-value c =
    let h : c.loop-wanted.value < 4096 = three_digits (c.args.count - c.loop-wanted.wanted) c.loop-wanted.value (omega arith) c.loop-wanted.invariant.small in
    let d : c.in-Some-to_digit.digit < 16 = grind (arith, c.in-Some-to_digit.ensures.value) in
    omega arith

pub split_at-requires : goal.split_at-requires
split_at-requires c =
    let first = c.in-Some.ensures.value ∙ ap (λ s. slice_get s 0) c.as_bytes.ensures.value in
    digit_cut _ c.in-Some.byte.now c.loop-wanted.invariant.text first (grind (arith, c.from.ensures, c.in-Some-to_digit.ensures.value))

pub loop-wanted-preserved : goal.loop-wanted-preserved
loop-wanted-preserved c =
    let first = c.in-Some.ensures.value ∙ ap (λ s. slice_get s 0) c.as_bytes.ensures.value in
    let d : c.in-Some-to_digit.digit ≡ digit_value c.in-Some.byte.now = grind (arith, c.from.ensures, c.in-Some-to_digit.ensures.value) in
    let i : digit_value c.in-Some.byte.now < 16 = grind (arith, c.from.ensures, c.in-Some-to_digit.ensures.value) in
    let e : c.args.count - (c.loop-wanted.wanted - 1) ≡ c.args.count - c.loop-wanted.wanted + 1 = omega arith in
    let more = digit_begins c.loop-wanted.rest.now c.split_at.result.1.now c.in-Some.byte.now c.loop-wanted.invariant.text first i c.split_at.ensures.back in
    record {
      text = more.text;
      fewer = omega arith;
      small = rw (e, d) (one_more (c.args.count - c.loop-wanted.wanted) c.loop-wanted.value (digit_value c.in-Some.byte.now) (omega arith) c.loop-wanted.invariant.small i);
      read = rw d (sym (hex_more c.loop-wanted.wanted c.loop-wanted.value c.in-Some.byte.now _ _ _ c.loop-wanted-test.true more.chars i) ∙ c.loop-wanted.invariant.read);
    }

pub returns-clause-read : goal.returns-clause-read
returns-clause-read c =
    let z : c.loop-wanted.wanted ≡ 0 = omega arith in
    record { read = sym c.loop-wanted.invariant.read ∙ hex_done c.loop-wanted.wanted c.loop-wanted.value _ _ z; text = c.loop-wanted.invariant.text }
