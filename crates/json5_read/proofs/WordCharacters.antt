-- Which characters `null`, `true` and `false` have.
use Rattle.std.proofs.Common.{◌≡◌, refl}
use Rattle.std.specs.Str.{chars}
use Rattle.json5_grammar.specs.Language.Values.{null_text, true_text, false_text}

pub chars_null : chars null_text ≡ null_text
unfolding chars
chars_null = refl

pub chars_true : chars true_text ≡ true_text
unfolding chars
chars_true = refl

pub chars_false : chars false_text ≡ false_text
unfolding chars
chars_false = refl
