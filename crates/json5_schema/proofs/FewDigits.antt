-- Digits that are below 2^64.
use Rattle.std.proofs.Common.{◌≡◌, ◌<◌, ◌^◌, ℕ, Bool, true, false, nat_lt, List, [], ◌∷◌, length, Result, Ok, Err, refl, sym, subst, arith}
use Rattle.std.specs.Result.{is_ok, OkIff}
use Rattle.std.specs.Str.Parse.{AllDigits, digits_value, ParsesUnsigned}
use Rattle.std.proofs.lemmas.Bool.Decides.{nat_tests}
use Rattle.std.proofs.lemmas.Str.Parse.{IsNumeralModel, numerals_by_value, parse_digits, tells_digits}
use Rattle.json5_grammar.specs.Language.Characters.{is_digit, Each, no_char}
use Rattle.json5_grammar.specs.Language.Numbers.{Decimal, infinite, nan, finite}
use Rattle.json5_grammar.specs.Written.NumberText.{Normal}
use Rattle.json5_types.specs.NumberDecimals.{digits_in}
use Rattle.json5_numbers.proofs.SpelledNumbers.{all_digits}
use Rattle.json5_schema.specs.Refusals.{are_few_digits}

few : (ds : List ℕ) → 0 < length ds → digits_value 10 ds < 2 ^ 64 → true ≡ are_few_digits ds
few [] h k = absurd (omega (arith, h))
few (c ∷ cs) h k = grind (arith, nat_tests, k)

not_few : (ds : List ℕ) → ((0 < length ds) × (digits_value 10 ds < 2 ^ 64) → ⊥) → false ≡ are_few_digits ds
not_few [] h = refl
not_few (c ∷ cs) h = by (nat_lt (digits_value 10 (c ∷ cs)) (2 ^ 64)) refl
  where
    by : (b : Bool) → b ≡ nat_lt (digits_value 10 (c ∷ cs)) (2 ^ 64) → false ≡ b
    by false e = refl
    by true e = absurd (h (omega arith, grind (arith, nat_tests, e)))

own : IsNumeralModel (AllDigits 10) (digits_value 10)
own = numerals_by_value (AllDigits 10) tells_digits

pub parsed : {E : Type 0} (ds : List ℕ) (r : Result ℕ E) → Each is_digit ds → ParsesUnsigned 64 10 ds r → is_ok r ≡ are_few_digits ds
parsed {E} ds r e p = by r (parse_digits own 64 ds r p (all_digits e))
  where
    by : (r : Result ℕ E) → OkIff r ((0 < length ds) × (digits_value 10 ds < 2 ^ 64)) (digits_value 10 ds) → is_ok r ≡ are_few_digits ds
    by (Ok n) (fits, same) = few ds fits.0 fits.1
    by (Err f) refused = not_few ds refused

normal_digits : (d : Decimal) → Normal d → Each is_digit (digits_in d)
normal_digits (infinite m) h = no_char
normal_digits (nan m) h = no_char
normal_digits (finite m ds e) h = h.digits

pub shown_digits : (d : Decimal) (ds : List ℕ) → ds ≡ digits_in d → Normal d → Each is_digit ds
shown_digits d ds e h = subst (Each is_digit) (sym e) (normal_digits d h)
