use Rattle.std.proofs.Common.{◌≡◌, ◌∙◌, sym, true, arith}
use Rattle.std.specs.Prelude.{slice_index}
use Rattle.json5_grammar.specs.Language.Characters.{is_digit}
use Rattle.json5_tokens.proofs.FewDigits.{digit_here, one_digit, digit_high, std_digit}
use Rattle.json5_tokens.proofs.numbers.short.front_digits.Goals as goal

pub loop-i-preserved : goal.loop-i-preserved
loop-i-preserved c =
    let h : is_digit (slice_index c.args.bytes.now c.loop-i.i) ≡ true = std_digit (slice_index c.args.bytes.now c.loop-i.i) (sym c.is_ascii_digit.ensures.value ∙ c.if-is_ascii_digit.true) in
    let k = digit_here c.args.bytes.now c.loop-i.i c.loop-i-test.true h in
    record {
      counted = omega (arith, k.0, c.loop-i.invariant.counted);
      value = c.loop-i.invariant.value ∙ one_digit c.args.bytes.now c.loop-i.i c.loop-i.value _ c.loop-i-test.true h c.from.ensures;
      inside = omega arith;
      small = omega (arith, digit_high (slice_index c.args.bytes.now c.loop-i.i) h, c.from.ensures, c.if-value-lt1000000000000000000.true);
    }
