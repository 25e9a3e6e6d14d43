use Rattle.std.proofs.Common.{sym, subst}
use Rattle.std.specs.Prelude.{◌↔◌}
use Rattle.std.specs.Str.{chars}
use Rattle.json5_lexemes.specs.PlainSteps.{is_exponent_sign, SignedDigits, Digits, Then}
use Rattle.json5_lexemes.proofs.PlainNumbers.{sign_passed, no_sign_passed, not_begun, none_begun}
use Rattle.json5_lexemes.proofs.json_words.skip_sign.Goals as goal

pub returns-in_default : goal.returns-in_default
returns-in_default c = λ r. no_sign_passed _ r (none_begun is_exponent_sign _ c.in_default.ensures)

pub returns-then-is_exponent_sign : goal.returns-then-is_exponent_sign
returns-then-is_exponent_sign c =
    λ r. subst (λ z. Then SignedDigits z r ↔ Then Digits (chars c.in-Some.after.now) r) (sym c.in-Some.ensures.chars) (sign_passed c.in-Some.c (chars c.in-Some.after.now) r (sym c.if-is_exponent_sign.ensures))

pub returns-else-is_exponent_sign : goal.returns-else-is_exponent_sign
returns-else-is_exponent_sign c = λ r. no_sign_passed _ r (not_begun is_exponent_sign _ _ _ c.in-Some.ensures.chars (sym c.if-is_exponent_sign.ensures))
