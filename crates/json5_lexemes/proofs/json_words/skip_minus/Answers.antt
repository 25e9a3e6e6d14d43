use Rattle.std.proofs.Common.{sym, subst}
use Rattle.std.specs.Prelude.{◌↔◌}
use Rattle.std.specs.Str.{chars}
use Rattle.json5_styles.specs.Json.{JsonNumber}
use Rattle.json5_lexemes.specs.PlainSteps.{Unsigned, Then}
use Rattle.json5_lexemes.proofs.PlainNumbers.{minus_passed, no_minus_passed}
use Rattle.json5_lexemes.proofs.json_words.skip_minus.Goals as goal

pub returns-in-Some : goal.returns-in-Some
returns-in-Some c = λ r. subst (λ z. Then JsonNumber z r ↔ Then Unsigned (chars c.in-Some.after.now) r) (sym c.in-Some.ensures.chars) (minus_passed (chars c.in-Some.after.now) r)

pub returns-in-None : goal.returns-in-None
returns-in-None c = λ r. no_minus_passed _ r c.in-None.ensures
