use Rattle.std.proofs.Common.{◌+◌, ◌*◌, arith}
use Rattle.std.proofs.lemmas.Nat.{mod_below}
use Rattle.json5_schema.proofs.Remainders.{digit_above, remainder_step}
use Rattle.json5_schema.proofs.multiples.remainder.Goals as goal

pub overflow_sub-digit : goal.overflow_sub-digit
overflow_sub-digit c = digit_above c.args.digits.now c.as_bytes-digit-items.result.now c.loop-digit.digit-index c.as_bytes-digit-items.ensures.value c.requires.digits (omega (arith, c.loop-digit-test.true))

pub loop-digit-preserved : goal.loop-digit-preserved
loop-digit-preserved c =
    let l = c.loop-digit in
    let bytes = c.as_bytes-digit-items in (
      remainder_step c.args.digits.now bytes.result.now l.digit-index l.rest c.from.result c.args.divisor bytes.ensures.value c.requires.digits (omega (arith, c.loop-digit-test.true)) l.invariant.0 c.from.ensures,
      mod_below (l.rest * 10 + c.from.result) c.args.divisor c.requires.divisor.0,
    )
