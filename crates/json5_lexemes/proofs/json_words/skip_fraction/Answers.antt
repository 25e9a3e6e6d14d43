use Rattle.json5_lexemes.proofs.PlainNumbers.{no_point_passed, fraction_goes}
use Rattle.json5_lexemes.proofs.json_words.skip_fraction.Goals as goal

pub returns-in-Some : goal.returns-in-Some
returns-in-Some c = fraction_goes _ _ _ c.in-Some.ensures.chars c.skip_some_digits.ensures

pub returns-in-None : goal.returns-in-None
returns-in-None c = λ r. no_point_passed _ r c.in-None.ensures
