use Rattle.std.proofs.Common.{refl, subst}
use Rattle.std.specs.Str.{chars}
use Rattle.json5_grammar.specs.Language.Characters.{comma_sign}
use Rattle.json5_tokens.specs.ShortWays.{IsInFront}
use Rattle.json5_tokens.proofs.AsciiBlanks.{at_solid_sign}
use Rattle.json5_tokens.proofs.blanks.skip_to_likely_comma.Goals as goal

pub returns-then-is_in_front : goal.returns-then-is_in_front
returns-then-is_in_front c =
    let front = subst (IsInFront comma_sign c.args.text.now) c.if-is_in_front.true c.is_in_front.ensures in
    record { read = at_solid_sign comma_sign (chars c.args.text.now) _ refl refl front.1; text = c.utf8.text }
