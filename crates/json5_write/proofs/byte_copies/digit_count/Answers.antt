use Rattle.std.proofs.Common.{arith}
use Rattle.json5_write.proofs.DecimalDigits.{length_one, length_two, length_three}
use Rattle.json5_write.proofs.byte_copies.digit_count.Goals as goal

pub returns-in-0-to-9 : goal.returns-in-0-to-9
returns-in-0-to-9 c = length_one c.args.number (omega (arith, c.in-0-to-9))

pub returns-in-10-to-99 : goal.returns-in-10-to-99
returns-in-10-to-99 c = length_two c.args.number (omega (arith, c.in-10-to-99)) (omega (arith, c.in-10-to-99))

pub returns-in_default : goal.returns-in_default
returns-in_default c = length_three c.args.number (omega (arith, c.in_default)) (omega (arith, c.requires))
