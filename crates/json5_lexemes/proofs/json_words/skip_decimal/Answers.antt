use Rattle.json5_styles.specs.Json.{JsonNumber, Exponent}
use Rattle.json5_lexemes.specs.PlainSteps.{Unsigned, AfterDigits}
use Rattle.json5_lexemes.proofs.PlainNumbers.{goes_nowhere, goes_far, goes_through}
use Rattle.json5_lexemes.proofs.json_words.skip_decimal.Goals as goal

pub returns-in_default : goal.returns-in_default
returns-in_default c = goes_nowhere JsonNumber Unsigned _ _ c.skip_minus.ensures c.in_default.ensures

pub returns : goal.returns
returns c =
    goes_through JsonNumber AfterDigits Exponent _ c.in-Some.fraction.now _ (goes_far JsonNumber Unsigned AfterDigits _ c.skip_minus.result.now _ c.skip_minus.ensures c.in-Some.ensures) c.skip_fraction.ensures
