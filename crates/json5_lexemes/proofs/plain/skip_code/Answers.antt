use Rattle.json5_lexemes.specs.PlainSteps.{TakesCode, TakesHex}
use Rattle.json5_lexemes.proofs.PlainTakes.{leaves_by, code_first, code_second, code_third, code_last}
use Rattle.json5_lexemes.proofs.plain.skip_code.Goals as goal

pub returns-in_default : goal.returns-in_default
returns-in_default c = λ r t. let k = code_first _ r t in c.in_default.ensures k.0 k.1

pub returns-in_default-skip_hex : goal.returns-in_default-skip_hex
returns-in_default-skip_hex c = λ r t. let k = code_second _ _ r c.in-Some.ensures t in c.in_default-skip_hex.ensures k.0 k.1

pub returns-in_default-skip_hex-2 : goal.returns-in_default-skip_hex-2
returns-in_default-skip_hex-2 c = λ r t. let k = code_third _ _ _ r c.in-Some.ensures c.in-Some-skip_hex.ensures t in c.in_default-skip_hex-2.ensures k.0 k.1

pub returns : goal.returns
returns c =
    leaves_by TakesCode TakesHex _ c.in-Some-skip_hex-2.third.now c.skip_hex-4.result
    (λ r. code_last _ _ _ _ r c.in-Some.ensures c.in-Some-skip_hex.ensures c.in-Some-skip_hex-2.ensures) c.skip_hex-4.ensures
