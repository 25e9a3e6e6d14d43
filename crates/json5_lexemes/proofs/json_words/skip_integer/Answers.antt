use Rattle.std.proofs.Common.{sym, subst}
use Rattle.std.specs.Prelude.{◌↔◌}
use Rattle.std.specs.Str.{chars}
use Rattle.json5_lexemes.specs.PlainSteps.{AfterDigits, Unsigned, Then}
use Rattle.json5_lexemes.proofs.PlainNumbers.{zero_passed, integer_goes}
use Rattle.json5_lexemes.proofs.json_words.skip_integer.Goals as goal

pub returns-in-Some : goal.returns-in-Some
returns-in-Some c = λ r. subst (λ z. Then Unsigned z r ↔ Then AfterDigits (chars c.in-Some.after.now) r) (sym c.in-Some.ensures.chars) (zero_passed (chars c.in-Some.after.now) r)

pub returns-in-None : goal.returns-in-None
returns-in-None c = integer_goes _ _ c.in-None.ensures c.skip_some_digits.ensures
