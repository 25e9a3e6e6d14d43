use Rattle.std.proofs.Common.{arith}
use Rattle.json5_write.proofs.DecimalDigits.{Copied-digits, length_few}
use Rattle.json5_write.proofs.byte_copies.copy_digits.Goals as goal

pub overflow_add-end : goal.overflow_add-end
overflow_add-end c = omega (arith, c.digit_count.ensures, length_few c.args.number (omega arith), c.requires)

pub write_digits-requires : goal.write_digits-requires
write_digits-requires c =
    let few = length_few c.args.number (omega arith) in
    (omega (arith, c.digit_count.ensures), omega (arith, c.digit_count.ensures, few, c.requires))

pub returns : goal.returns
returns c =
    let few = length_few c.args.number (omega arith) in
    Copied-digits c.write_digits.result (omega (arith, c.digit_count.ensures)) (omega (arith, c.digit_count.ensures, few, c.requires)) c.write_digits.ensures.start c.write_digits.ensures.written
    c.write_digits.ensures.before
