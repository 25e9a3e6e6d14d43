use Rattle.json5_convert.specs.SpelledAnew.{in_first, in_second}
use Rattle.json5_convert.proofs.spelled_anew.past_comma.Goals as goal

pub returns-in-Some : goal.returns-in-Some
returns-in-Some c = in_first c.in-Some.ensures

pub returns : goal.returns
returns c = in_second c.in-Some-past_byte.ensures
