-- The characters of JSON's words are parts of words.
use Rattle.std.proofs.Common.{◌≡◌, ℕ, true, arith}
use Rattle.std.proofs.lemmas.Bool.Decides.{nat_tests}
use Rattle.json5_lexemes.specs.SameLexemes.{is_word_part}
use Rattle.json5_lexemes.specs.PlainSteps.{is_json_part}
use Rattle.json5_lexemes.proofs.WordParts.{is_printable_part, printable_part}

pub json_part_of_word : (c : ℕ) → is_json_part c ≡ true → is_word_part c ≡ true
json_part_of_word c h = printable_part c (printable c h)
  where
    printable : (c : ℕ) → is_json_part c ≡ true → is_printable_part c ≡ true
    printable c h = grind (arith, nat_tests)
