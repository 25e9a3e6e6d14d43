-- A number that is written is one of JSON, if it is finite.
use Rattle.std.proofs.Common.{◌≡◌, ℕ, zero, suc, ◌+◌, ◌-◌, ◌/◌, ◌%◌, ◌^◌, ◌<◌, ◌≤◌, Bool, true, false, cond, nat_lt, List, [], ◌∷◌, ◌++◌, length, take, drop, refl, sym, ap, arith, subst, append-nil, length-append, length-drop}
use Rattle.std.specs.Prelude.{◌==◌, ℤ, pos, negsuc, reverse}
use Rattle.std.specs.Fmt.{decimal, signed_decimal, sign_text}
use Rattle.std.proofs.lemmas.Bool.Decides.{nat_tests}
use Rattle.std.proofs.lemmas.Fmt.{decimal_by_steps_wide}
use Rattle.std.proofs.lemmas.Int.{ints}
use Rattle.json5_grammar.specs.Language.Characters.{is_digit, is_in, Each, no_char, char}
use Rattle.json5_grammar.specs.Language.Numbers.{Number, whole, finite, infinite, nan, Integer, lone_zero, nonzero, InWhole, without_front_zeros, without_zeros}
use Rattle.json5_grammar.specs.Language.Numbers as numbers
use Rattle.json5_grammar.specs.Written.NumberText.{zeros, pointed, digits_text, IsNormal, IsNumber, number_text}
use Rattle.json5_grammar.proofs.CharacterTests.{Each-append, each_weaken, digit_nonzero}
use Rattle.json5_grammar.proofs.DecimalsWritten.{each_zero, length-front}
use Rattle.json5_grammar.proofs.WholesWritten.{glyph_digit}
use Rattle.std.proofs.lemmas.List.{length-reverse}
use Rattle.json5_styles.specs.Json.{Minus, no_minus, minus, Fraction, no_fraction, fraction, no_exponent, JsonNumber, json_number}
use Rattle.json5_styles.specs.JsonTexts.{is_json_number}

-- ---- one form

without_exponent : {m i f : List ℕ} → Minus m → Integer i → Fraction f → JsonNumber (m ++ (i ++ f))
without_exponent {m = m} {i = i} {f = f} a b c = subst (λ z. JsonNumber (m ++ (i ++ z))) (append-nil f) (json_number a b c no_exponent)

sign_minus : (m : Bool) → Minus (sign_text m)
sign_minus true = minus
sign_minus false = no_minus

-- ---- whole numbers

glyph_nonzero : (d : ℕ) → 0 < d → d < 10 → is_in 49 57 (48 + d) ≡ true
glyph_nonzero d k h = grind (arith, nat_tests)

-- digits of a value, alone zero if it is 0
record Plain (n : ℕ) (ds : List ℕ) : Type 0 where
  digits : Integer ds
  zero_alone : ds ≡ 48 ∷ [] → n ≡ 0

one_digit : (d : ℕ) → d < 10 → Plain d ((48 + d) ∷ [])
one_digit zero h = record { digits = lone_zero; zero_alone = λ e. refl }
one_digit (suc d) h = record { digits = nonzero (glyph_nonzero (suc d) (omega arith) h) no_char; zero_alone = λ e. let f : 48 + suc d ≡ 48 = cc in absurd (omega arith) }

more_digits : (n : ℕ) (ds : List ℕ) → 10 ≤ n → Integer ds → (ds ≡ 48 ∷ [] → n / 10 ≡ 0) → Plain n (ds ++ (48 + n % 10) ∷ [])
more_digits n ds h lone_zero z = absurd (let e = z refl in omega arith)
more_digits n ds h (nonzero {c} {s} k e) z =
    record { digits = nonzero k (Each-append e (char (glyph_digit (n % 10) (omega arith)) no_char)); zero_alone = λ f. let l = ap length f in absurd (omega (arith, l, length-append s ((48 + n % 10) ∷ []))) }

decimal_plain : (n : ℕ) → n < 10 ^ 64 → Plain n (decimal n)
decimal_plain = decimal_by_steps_wide Plain one_digit (λ n ds h k. more_digits n ds h k.digits k.zero_alone)

whole_is : (z : ℤ) → InWhole z → JsonNumber (signed_decimal z)
whole_is (pos n) h =
    let a = h.1 in
    let k = decimal_plain n (omega (arith, ints)) in
    subst JsonNumber (append-nil (decimal n)) (without_exponent no_minus k.digits no_fraction)
whole_is (negsuc n) h =
    let a = h.0 in
    let k = decimal_plain (suc n) (omega (arith, ints)) in
    subst (λ z. JsonNumber (45 ∷ z)) (append-nil (decimal (suc n))) (without_exponent minus k.digits no_fraction)

-- ---- decimals

digits_integer : {c : ℕ} {t : List ℕ} → Each is_digit (c ∷ t) → (c == 48) ≡ false → Integer (c ∷ t)
digits_integer (char {c = c} h e) k = nonzero (digit_nonzero c h k) e

Each-take : {p : ℕ → Bool} {s : List ℕ} (n : ℕ) → Each p s → Each p (take n s)
Each-take zero e = no_char
Each-take (suc n) no_char = no_char
Each-take (suc n) (char h e) = char h (Each-take n e)

Each-drop : {p : ℕ → Bool} {s : List ℕ} (n : ℕ) → Each p s → Each p (drop n s)
Each-drop zero e = e
Each-drop (suc n) no_char = no_char
Each-drop (suc n) (char h e) = Each-drop n e

zero_is_digit : (c : ℕ) → (c == 48) ≡ true → is_digit c ≡ true
zero_is_digit c h = grind (arith, nat_tests)

all_zeros : (n : ℕ) → Each is_digit (zeros n)
all_zeros n = each_weaken is_digit zero_is_digit (each_zero n)

length-zeros : (s : List ℕ) → length (without_zeros s) ≤ length (without_front_zeros s)
length-zeros s = omega (arith, length-reverse (without_front_zeros (reverse (without_front_zeros s))), length-front (reverse (without_front_zeros s)), length-reverse (without_front_zeros s))

-- digits that are bare begin with another digit than 0
first_other : (c : ℕ) (t : List ℕ) → without_zeros (c ∷ t) ≡ c ∷ t → (b : Bool) → (c == 48) ≡ b → b ≡ false
first_other c t e true h =
    let k : without_front_zeros (c ∷ t) ≡ without_front_zeros t = rw h in
    absurd (omega (arith, length-zeros (c ∷ t), ap length e, ap length k, length-front t))
first_other c t e false h = refl

-- a fraction of some digits
some_fraction : (ds : List ℕ) → Each is_digit ds → 0 < length ds → Fraction (46 ∷ ds)
some_fraction [] e h = absurd (omega arith)
some_fraction (d ∷ ds) e h = fraction e

pointed_is : (m : List ℕ) (c : ℕ) (t : List ℕ) (j : ℕ) → Minus m → Each is_digit (c ∷ t) → (c == 48) ≡ false → JsonNumber (m ++ pointed (c ∷ t) (suc j))
pointed_is m c t j a d h = split (nat_lt (suc j) (length (c ∷ t))) refl
  where
    inner : suc j < length (c ∷ t) → (k : ℕ) → length (c ∷ t) - suc j ≡ suc k → JsonNumber (m ++ (take (suc k) (c ∷ t) ++ 46 ∷ drop (suc k) (c ∷ t)))
    inner l k e = without_exponent a (digits_integer (Each-take (suc k) d) h) (some_fraction (drop (suc k) (c ∷ t)) (Each-drop (suc k) d) (omega (arith, length-drop (suc k) (c ∷ t))))

    at_true : suc j < length (c ∷ t) → JsonNumber (m ++ (take (length (c ∷ t) - suc j) (c ∷ t) ++ 46 ∷ drop (length (c ∷ t) - suc j) (c ∷ t)))
    at_true l =
        let k : ℕ = length (c ∷ t) - suc j - 1 in
        let e : length (c ∷ t) - suc j ≡ suc k = omega arith in
        subst (λ n. JsonNumber (m ++ (take n (c ∷ t) ++ 46 ∷ drop n (c ∷ t)))) (sym e) (inner l k e)

    at_false : (k : ℕ) → JsonNumber (m ++ (48 ∷ 46 ∷ (zeros k ++ (c ∷ t))))
    at_false k = without_exponent a lone_zero (some_fraction (zeros k ++ (c ∷ t)) (Each-append (all_zeros k) d) (omega (arith, length-append (zeros k) (c ∷ t))))

    split : (o : Bool) → nat_lt (suc j) (length (c ∷ t)) ≡ o → JsonNumber (m ++ cond o (take (length (c ∷ t) - suc j) (c ∷ t) ++ 46 ∷ drop (length (c ∷ t) - suc j) (c ∷ t)) (48 ∷ 46 ∷ (zeros (suc j - length (c ∷ t)) ++ (c ∷ t))))
    split true e = at_true (grind (arith, nat_tests))
    split false e = at_false (suc j - length (c ∷ t))

finite_is : (m : Bool) (ds : List ℕ) (e : ℤ) → IsNormal ds e → JsonNumber (sign_text m ++ digits_text ds e)
finite_is m [] e h = without_exponent (sign_minus m) lone_zero (fraction (char refl no_char))
finite_is m (c ∷ t) (pos e) h = without_exponent (sign_minus m) (digits_integer (Each-append h.digits (all_zeros e)) (first_other c t h.bare (c == 48) refl)) (fraction (char refl no_char))
finite_is m (c ∷ t) (negsuc j) h = pointed_is (sign_text m) c t j (sign_minus m) h.digits (first_other c t h.bare (c == 48) refl)

pub number_is : (n : Number) → IsNumber n → is_json_number n ≡ true → JsonNumber (number_text n)
number_is (whole z) h k = whole_is z h
number_is (numbers.decimal (infinite m)) h k = absurd (cc)
number_is (numbers.decimal (nan m)) h k = absurd (cc)
number_is (numbers.decimal (finite m ds e)) h k = finite_is m ds e h
