-- The text of digits and an exponent is read as the number that they make.
use Rattle.std.proofs.Common.{◌≡◌, ◌∙◌, ℕ, suc, ◌+◌, ◌*◌, ◌^◌, ◌<◌, Bool, true, false, List, [], ◌∷◌, ◌++◌, length, refl, sym, ap, subst, arith, append-nil, length-append, lit≤}
use native.Mathlib.Nat.{lt_of_lt_of_le}
use Rattle.std.specs.Prelude.{ℤ, pos, negsuc}
use Rattle.std.specs.Fmt.{decimal, signed_decimal, sign_text}
use Rattle.std.specs.Str.Parse.{AllDigits, digits_value}
use Rattle.std.specs.Float.Ieee.{Float, Format, round}
use Rattle.std.proofs.lemmas.Bool.Decides.{nat_tests}
use Rattle.std.proofs.lemmas.Fmt.{decimal_is_IsNumeral, decimal_is_IsNumeral_wide}
use Rattle.std.proofs.lemmas.Str.Parse.{IsNumeralModel, numerals_by_value, tells_digits, digit_from_value}
use Rattle.std.specs.Char.{digit_value}
use Rattle.fast_float.specs.Text.{Parts, scan, nearest, exponent_text, IsWellFormed}
use Rattle.fast_float.specs.Rounding.{nearest_to_decimal}
use Rattle.fast_float.proofs.Writing.{scan-text_of}
use Rattle.json5_grammar.specs.Language.Characters.{is_digit, Each, no_char, char}
use Rattle.std.proofs.lemmas.Int.{ints}
use Rattle.json5_grammar.specs.Written.NumberText.{Normal}
use Rattle.json5_numbers.specs.Floats.{nearest_to}
use Rattle.json5_grammar.specs.Language.Numbers.{Decimal, infinite, nan, finite}
use Rattle.json5_types.specs.NumberDecimals.{has_minus, is_infinity, is_not_a_number, digits_in, exponent_in}

pub each_digit : (ds : List ℕ) → AllDigits 10 ds → Each is_digit ds
each_digit [] a = no_char
each_digit (c ∷ s) a = char (let r = digit_from_value c a.0 in grind (arith, nat_tests)) (each_digit s a.1)

abbrev parts_of : List ℕ → Bool → List ℕ → Parts
parts_of ds negative es = record { whole = ds; point = false; fraction = []; exponent_negative = negative; exponent = es; len = length ds + length (exponent_text negative es) }

one_digit : (c : ℕ) → is_digit c ≡ true → digit_value c < 10
one_digit c h = grind (arith, nat_tests)

pub all_digits : {ds : List ℕ} → Each is_digit ds → AllDigits 10 ds
all_digits no_char = tt
all_digits (char {c} h e) = (one_digit c h, all_digits e)

well : (ds es : List ℕ) (negative : Bool) → AllDigits 10 ds → AllDigits 10 es → 0 < length es → IsWellFormed (parts_of ds negative es)
well ds es negative a b h = record {
  whole_digits = a;
  fraction_digits = tt;
  exponent_digits = b;
  no_point = λ e. refl;
  no_exponent = λ e. absurd (let l = ap length e in omega arith);
  len_is = sym (length-append ds (exponent_text negative es));
}

some_exponent : (negative : Bool) (es : List ℕ) → 0 < length es → exponent_text negative es ≡ 101 ∷ (sign_text negative ++ es)
some_exponent negative [] h = absurd (omega arith)
some_exponent negative (e ∷ es) h = refl

read_parts : (ds es text : List ℕ) (negative : Bool) → AllDigits 10 ds → AllDigits 10 es → 0 < length es → text ≡ ds ++ 101 ∷ (sign_text negative ++ es) → scan text ≡ parts_of ds negative es
read_parts ds es text negative a b h e = ap scan (e ∙ ap (λ x. ds ++ x) (sym (some_exponent negative es h))) ∙ scan-text_of (parts_of ds negative es) (well ds es negative a b h)

-- the size of the exponent has 64 bits
abbrev small : ℤ → Type 0
small (pos n) = n < 2 ^ 64
small (negsuc n) = suc n < 2 ^ 64

plus_zero : (n : ℕ) → 0 + n ≡ n
plus_zero n = omega arith

at_one : (n : ℕ) → n * 1 ≡ n
at_one n = omega arith

pub read_nearest : (f : Format) (m : Bool) (ds text : List ℕ) (e : ℤ) → AllDigits 10 ds → small e → text ≡ ds ++ 101 ∷ signed_decimal e → nearest f m (scan text) ≡ nearest_to_decimal f m (digits_value 10 ds) e
read_nearest f m ds text (pos n) a h e =
    let d = decimal_is_IsNumeral n h in
    ap (nearest f m) (read_parts ds (decimal n) text false a d.0.1 d.0.0 e) ∙ rw (append-nil ds, d.1) refl
read_nearest f m ds text (negsuc n) a h e =
    let d = decimal_is_IsNumeral (suc n) h in
    ap (nearest f m) (read_parts ds (decimal (suc n)) text true a d.0.1 d.0.0 e) ∙ rw (append-nil ds, d.1, at_one (digits_value 10 ds), plus_zero (suc n)) refl

-- ---- digits alone

abbrev plain : List ℕ → Parts
plain ds = record { whole = ds; point = false; fraction = []; exponent_negative = false; exponent = []; len = length ds }

plain_well : (ds : List ℕ) → AllDigits 10 ds → IsWellFormed (plain ds)
plain_well ds a = record {
  whole_digits = a;
  fraction_digits = tt;
  exponent_digits = tt;
  no_point = λ e. refl;
  no_exponent = λ e. refl;
  len_is = sym (ap length (append-nil ds));
}

pub read_whole : (f : Format) (m : Bool) (n : ℕ) (text : List ℕ) → n < 2 ^ 128 → text ≡ decimal n → nearest f m (scan text) ≡ round f m n 1
read_whole f m n text h e =
    let few : n < 10 ^ 64 = lt_of_lt_of_le h (lit≤ tt) in
    let d = decimal_is_IsNumeral_wide n few in
    ap (λ x. nearest f m (scan x)) (e ∙ sym (append-nil (decimal n))) ∙ ap (nearest f m) (scan-text_of (plain (decimal n)) (plain_well (decimal n) d.0.1)) ∙ rw (append-nil (decimal n), d.1, at_one n) refl

-- ---- few digits

own : IsNumeralModel (AllDigits 10) (digits_value 10)
own = numerals_by_value (AllDigits 10) tells_digits

-- ---- finite decimals

normal_digits : (d : Decimal) → Normal d → AllDigits 10 (digits_in d)
normal_digits (infinite m) h = tt
normal_digits (nan m) h = tt
normal_digits (finite m ds e) h = all_digits h.digits

small_exponent : (d : Decimal) → Normal d → small (exponent_in d)
small_exponent (infinite m) h = omega arith
small_exponent (nan m) h = omega arith
small_exponent (finite m ds (pos n)) h = let k = h.in_range.1 in omega (arith, ints, k)
small_exponent (finite m ds (negsuc n)) h = let k = h.in_range.0 in omega (arith, ints, k)

nearest_finite : (f : Format) (d : Decimal) → is_not_a_number d ≡ false → is_infinity d ≡ false → nearest_to_decimal f (has_minus d) (digits_value 10 (digits_in d)) (exponent_in d) ≡ nearest_to f d
nearest_finite f (infinite m) h k = absurd (cc)
nearest_finite f (nan m) h k = absurd (cc)
nearest_finite f (finite m ds e) h k = refl

pub nearest_read : (f : Format) (d : Decimal) (m : Bool) (ds bytes : List ℕ) (e : ℤ) (parts : Parts) (x : Float) → m ≡ has_minus d → ds ≡ digits_in d → e ≡ exponent_in d → Normal d → is_not_a_number d ≡ false → is_infinity d ≡ false
    → bytes ≡ ds ++ 101 ∷ signed_decimal e → parts ≡ scan bytes → x ≡ nearest f m parts → x ≡ nearest_to f d
nearest_read f d m ds bytes e parts x hm hds he n h k t p v =
    v ∙ ap (nearest f m) p ∙ read_nearest f m ds bytes e (subst (AllDigits 10) (sym hds) (normal_digits d n)) (subst small (sym he) (small_exponent d n)) t ∙ rw (hm, hds, he) (nearest_finite f d h k)
