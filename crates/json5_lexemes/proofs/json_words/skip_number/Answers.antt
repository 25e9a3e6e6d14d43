use Rattle.json5_styles.specs.Json.{JsonNumber, Exponent}
use Rattle.json5_lexemes.specs.PlainSteps.{Then}
use Rattle.json5_lexemes.proofs.PlainTakes.{leaves_by}
use Rattle.json5_lexemes.proofs.json_words.skip_number.Goals as goal

pub returns-in_default : goal.returns-in_default
returns-in_default c = c.in_default.ensures

pub returns : goal.returns
returns c = leaves_by (Then JsonNumber) (Then Exponent) _ c.in-Some.exponent.now _ c.in-Some.ensures c.end_number.ensures
