use Rattle.std.proofs.Common.{Some, None, refl}
use Rattle.json5_styles.specs.Json.{JsonNumber, Exponent}
use Rattle.json5_lexemes.specs.PlainSteps.{Then}
use Rattle.json5_lexemes.specs.declared.plain.Last.TheVariants as last
use Rattle.json5_lexemes.proofs.PlainNumbers.{ends_at_comma}
use Rattle.json5_lexemes.proofs.PlainPassed.{number_passed, comma_passed, passed_on}
use Rattle.json5_lexemes.proofs.PlainTakes.{leaves_by}
use Rattle.json5_lexemes.proofs.plain.pass_number_within.Goals as goal

pub returns-in_default : goal.returns-in_default
returns-in_default c = λ k l d after f h. number_passed k l c.args.text.now after d f h None c.in_default.ensures

pub returns-in-Some-past_byte : goal.returns-in-Some-past_byte
returns-in-Some-past_byte c = λ k l d after f h.
    let left = c.in-Some.left in
    let comma = c.in-Some-past_byte.ensures.chars in
    let number = number_passed k l c.args.text.now after d f h (Some (last.Word, left)) (refl, ends_at_comma c.args.text.now left.now _ c.in-Some.ensures comma) in
    c.with_space.ensures k l c.args.text.now
    (passed_on k l last.Word c.args.text.now left (Some (last.Comma, c.in-Some-past_byte.after)) number (comma_passed k last.Word left.now c.in-Some-past_byte.after.now 44 comma refl))

pub returns-in_default-end_number : goal.returns-in_default-end_number
returns-in_default-end_number c = λ k l d after f h.
    number_passed k l c.args.text.now after d f h None (leaves_by (Then JsonNumber) (Then Exponent) c.args.text.now c.in-Some.left.now None c.in-Some.ensures c.in_default-end_number.ensures)

pub returns : goal.returns
returns c = λ k l d after f h.
    number_passed k l c.args.text.now after d f h (Some (last.Word, c.in-Some-end_number.end))
    (refl, leaves_by (Then JsonNumber) (Then Exponent) c.args.text.now c.in-Some.left.now (Some c.in-Some-end_number.end) c.in-Some.ensures c.in-Some-end_number.ensures)
