use Rattle.std.proofs.Common.{sym}
use Rattle.json5_lexemes.specs.PlainSteps.{is_exponent_letter}
use Rattle.json5_lexemes.proofs.PlainNumbers.{no_letter_passed, not_begun, none_begun, exponent_goes}
use Rattle.json5_lexemes.proofs.json_words.skip_exponent.Goals as goal

pub returns-in_default : goal.returns-in_default
returns-in_default c = λ r. no_letter_passed _ r (none_begun is_exponent_letter _ c.in_default.ensures)

pub returns-then-is_exponent_letter : goal.returns-then-is_exponent_letter
returns-then-is_exponent_letter c = exponent_goes _ _ c.skip_sign.result.now _ _ c.in-Some.ensures.chars (sym c.if-is_exponent_letter.ensures) c.skip_sign.ensures c.skip_some_digits.ensures

pub returns : goal.returns
returns c = λ r. no_letter_passed _ r (not_begun is_exponent_letter _ _ _ c.in-Some.ensures.chars (sym c.if-is_exponent_letter.ensures))
