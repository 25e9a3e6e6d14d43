use Rattle.json5_types.proofs.AsciiRuns.{each_utf8, digit_is_ascii}
use Rattle.json5_types.proofs.inline_digits.InlineDigits.as_str.Goals as goal

pub from_utf8_unchecked-requires : goal.from_utf8_unchecked-requires
from_utf8_unchecked-requires c = rw c.from.ensures (each_utf8 digit_is_ascii c.self.invariant.1)
