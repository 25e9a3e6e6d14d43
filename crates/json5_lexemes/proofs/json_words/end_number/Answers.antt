use Rattle.std.proofs.Common.{◌≡◌, true, false, refl}
use Rattle.json5_lexemes.proofs.PlainNumbers.{no_letter, no_letter_passed, ends_there}
use Rattle.json5_lexemes.proofs.PlainWords.{number_ends}
use Rattle.json5_lexemes.proofs.json_words.end_number.Goals as goal

pub returns-then-ends_word : goal.returns-then-ends_word
returns-then-ends_word c =
    let n = c.if-ends_word.ensures refl in
    λ r. ends_there _ _ r n (no_letter_passed _ r (no_letter _ n))

pub returns-then-front_is_part : goal.returns-then-front_is_part
returns-then-front_is_part c = λ r t.
    let k = (c.in-Some.ensures r).0 t in
    let is : true ≡ false = c.if-front_is_part.ensures.1 (number_ends _ r k).0 in cc

pub returns : goal.returns
returns c = λ r. ends_there _ _ r (c.if-front_is_part.ensures.0 refl) (c.in-Some.ensures r)
