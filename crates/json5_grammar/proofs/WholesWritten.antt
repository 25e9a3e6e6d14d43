-- A whole number that is written is a number of that value.
use Rattle.std.proofs.Common.{◌≡◌, ℕ, zero, suc, ◌+◌, ◌%◌, ◌^◌, ◌<◌, true, List, [], ◌∷◌, ◌++◌, refl, sym, ◌∙◌, arith, ◌≢◌, subst, Option, None}
use Rattle.std.specs.Prelude.{ℤ, pos, negsuc, neg_ℤ}
use Rattle.std.specs.Char.{digit_value}
use Rattle.std.specs.Fmt.{decimal, signed_decimal}
use Rattle.std.proofs.lemmas.Fmt.{decimal_by_steps_wide}
use Rattle.std.proofs.lemmas.Str.{digit_value_digit}
use Rattle.std.proofs.lemmas.Bool.Decides.{nat_tests}
use Rattle.std.proofs.lemmas.Int.{ints}
use Rattle.std.proofs.lemmas.List.{append-nil}
use Rattle.json5_grammar.specs.Language.Characters.{is_digit, is_in, no_char, char}
use Rattle.json5_grammar.specs.Language.Numbers.{whole, no_sign, minus, spelled, Integer, lone_zero, nonzero, Mantissa, integer, no_exponent, Literal, literal, Num, is_integer, InWhole}
use Rattle.json5_grammar.proofs.CharacterTests.{Each-append}
use Rattle.json5_grammar.proofs.HexadecimalNumbers.{spelled-append}

pub literal_alone : {m i : List ℕ} {f : Option (List ℕ)} → Mantissa m i f → Literal m i f None
literal_alone {m = m} {i = i} {f = f} h = subst (λ z. Literal z i f None) (append-nil m) (literal h no_exponent)

glyph_value : (d : ℕ) → d < 10 → digit_value (48 + d) ≡ d
glyph_value d h = omega (arith, digit_value_digit (48 + d) (omega arith, omega arith))

pub glyph_digit : (d : ℕ) → d < 10 → is_digit (48 + d) ≡ true
glyph_digit d h = grind (arith, nat_tests)

glyph_nonzero : (d : ℕ) → 0 < d → d < 10 → is_in 49 57 (48 + d) ≡ true
glyph_nonzero d k h = grind (arith, nat_tests)

-- digits of a value
record Spells (n : ℕ) (ds : List ℕ) : Type 0 where
  digits : Integer ds
  value : spelled 10 0 ds ≡ n

one_digit : (d : ℕ) → d < 10 → Integer ((48 + d) ∷ [])
one_digit zero h = lone_zero
one_digit (suc d) h = nonzero (glyph_nonzero (suc d) (omega arith) h) no_char

more_digits : {ds : List ℕ} (d : ℕ) → Integer ds → spelled 10 0 ds ≢ 0 → is_digit d ≡ true → Integer (ds ++ d ∷ [])
more_digits d lone_zero n h = absurd (n refl)
more_digits d (nonzero k e) n h = nonzero k (Each-append e (char h no_char))

decimal_spells : (n : ℕ) → n < 10 ^ 64 → Spells n (decimal n)
decimal_spells = decimal_by_steps_wide Spells
    (λ n h. record { digits = one_digit n h; value = omega (arith, glyph_value n h) })
    (λ n ds h k. record {
      digits = more_digits (48 + n % 10) k.digits (λ e. omega (arith, k.value)) (glyph_digit (n % 10) (omega arith));
      value = spelled-append 10 0 ds ((48 + n % 10) ∷ []) ∙ omega (arith, k.value, glyph_value (n % 10) (omega arith));
    })

pub whole_text : (z : ℤ) → InWhole z → Num (signed_decimal z) (whole z)
whole_text (pos n) h =
    let a = h.1 in
    let k = decimal_spells n (omega (arith, ints)) in
    subst (λ v. Num (decimal n) (whole (pos v))) k.value (is_integer no_sign (literal_alone (integer k.digits)) (subst (λ v. InWhole (pos v)) (sym k.value) h))
whole_text (negsuc n) h =
    let a = h.0 in
    let k = decimal_spells (suc n) (omega (arith, ints)) in
    subst (λ v. Num (45 ∷ decimal (suc n)) (whole (neg_ℤ (pos v)))) k.value (is_integer minus (literal_alone (integer k.digits)) (subst (λ v. InWhole (neg_ℤ (pos v))) (sym k.value) h))
