use Rattle.std.proofs.Common.{refl}
use Rattle.json5_convert.proofs.spelled_anew.past_numbers.Goals as goal

pub returns-then-is_same_number : goal.returns-then-is_same_number
returns-then-is_same_number c = (c.in_ok-number.number, c.in_ok-other.other, c.if-is_same_number.ensures refl, c.in_ok-number.ensures, c.in_ok-other.ensures)
