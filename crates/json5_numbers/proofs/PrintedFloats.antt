-- The number that a float is printed as, without the zeros around its digits, is read as the same float.
use Rattle.std.proofs.Common.{◌≡◌, ℕ, zero, suc, ◌+◌, ◌-◌, ◌*◌, ◌^◌, ◌<◌, ◌≤◌, Bool, true, false, cond, List, [], ◌∷◌, ◌++◌, length, drop, slice_index, Option, Some, None, refl, ap, sym, subst, ◌∙◌, arith, lit≤, lit<, inl, inr, true≢false}
use Rattle.std.specs.Prelude.{◌==◌, reverse, ℤ, pos, negsuc, ◌+ℤ◌, ◌-ℤ◌, IsTrue, MatchOption}
use Rattle.std.specs.Char.{digit_value}
use Rattle.std.specs.Fmt.{sign_text}
use Rattle.std.specs.Str.Parse.{AllDigits, digits_value}
use Rattle.std.specs.Float.{float_is_finite, float_is_infinite, is_sign_negative}
use lib.Ieee.{Float, Format, binary64, nan as not_a_number, inf, fin, round, neg, is_nan, of_bits}
use Rattle.std.proofs.lemmas.Bool.{cases_lt}
use Rattle.std.proofs.lemmas.Bool.Decides.{nat_tests}
use Rattle.std.proofs.lemmas.Int.{ints, to_z-of_z}
use mir.Syntax.{w128}
use mir.Val.{to_z, of_z}
use Rattle.std.proofs.lemmas.Int.Digits.{digits_value-lt, digits_value_push}
use Rattle.std.proofs.lemmas.List.{reverse-append, reverse-reverse, length-reverse, length-append}
use Rattle.std.proofs.lemmas.Str.Parse.{digit_from_value}
use Rattle.fast_float.proofs.DigitsLemmas.{digits_value-append}
use Rattle.fast_float.proofs.Extremes.{nearest_of_tiny, nearest_of_huge, nearest_of_zero, tens_le, tens_eq}
use Rattle.fast_float.proofs.Patterns.{infinite as infinite_bits, neg-round}
use native.Mathlib.Nat.{mul-one, mul-le-mul_right, le_trans, pow-le-pow_right}
use lib.Pow.{pow-add}
use Rattle.fast_float.proofs.ExactLemmas.{ten_to_pos}
use lib.Ieee.Scale.{round_same}
use Rattle.fast_float.specs.Parse.{parse_float}
use Rattle.fast_float.specs.Text.{Parts, scan, nearest, text_of}
use Rattle.fast_float.specs.Rounding.{nearest_to_decimal}
use Rattle.fast_float.proofs.Writing.{scan-text_of, parse_float-text_of}
use Rattle.ryu.specs.Plain.{IsPlain, IsPlainNumber}
use Rattle.json5_grammar.specs.Language.Numbers.{Decimal, finite, without_front_zeros, without_zeros, normal_exponent, is_empty, InExponents, signed}
use Rattle.json5_grammar.proofs.DecimalsWritten.{length-front}
use Rattle.json5_types.specs.Exponents.{IsSmallExponent}
use Rattle.json5_types.specs.NumberDecimals.{IsFiniteIfInRange}
use Rattle.json5_numbers.specs.Floats.{nearest_to, last_place}

-- ---- digits without the zeros around them

from_none : (n : ℕ) → 0 + n ≡ n
from_none n = omega arith

value_cons : (c : ℕ) (s : List ℕ) → digits_value 10 (c ∷ s) ≡ digit_value c * 10 ^ length s + digits_value 10 s
value_cons c s = digits_value-append (c ∷ []) s ∙ ap (λ (d : ℕ). d * 10 ^ length s + digits_value 10 s) (from_none (digit_value c))

zero_is : (c : ℕ) → (c == 48) ≡ true → digit_value c ≡ 0
zero_is c h = let e : c ≡ 48 = grind (arith, nat_tests) in rw e refl

no_more : (d p v : ℕ) → d ≡ 0 → d * p + v ≡ v
no_more d p v h = rw h (omega arith)

front_if : (c : ℕ) (s : List ℕ) → digits_value 10 (without_front_zeros s) ≡ digits_value 10 s → (b : Bool) → (c == 48) ≡ b → digits_value 10 (cond b (without_front_zeros s) (c ∷ s)) ≡ digits_value 10 (c ∷ s)
front_if c s e true h = e ∙ sym (value_cons c s ∙ no_more (digit_value c) (10 ^ length s) (digits_value 10 s) (zero_is c h))
front_if c s e false h = refl

front_value : (s : List ℕ) → digits_value 10 (without_front_zeros s) ≡ digits_value 10 s
front_value [] = refl
front_value (c ∷ s) = front_if c s (front_value s) (c == 48) refl

push_reversed : (c : ℕ) (s : List ℕ) → digits_value 10 (reverse (c ∷ s)) ≡ digits_value 10 (reverse s) * 10 + digit_value c
push_reversed c s = ap (digits_value 10) (reverse-append (c ∷ []) s) ∙ digits_value_push 10 (reverse s) c

abbrev Shortens : List ℕ → List ℕ → Type 0
Shortens s t = digits_value 10 (reverse s) ≡ digits_value 10 (reverse t) * 10 ^ (length s - length t)

tenfold : (v d w n k : ℕ) → d ≡ 0 → v ≡ w * 10 ^ n → k ≡ n + 1 → v * 10 + d ≡ w * 10 ^ k
tenfold v d w n k h e l = let p : 10 ^ (n + 1) ≡ 10 ^ n * 10 = pow-add 10 n 1 in rw (l, h, e, p) (omega arith)

unmoved : (v k : ℕ) → k ≡ 0 → v ≡ v * 10 ^ k
unmoved v k h = rw h (omega arith)

back_if : (c : ℕ) (s : List ℕ) → Shortens s (without_front_zeros s) → (b : Bool) → (c == 48) ≡ b → Shortens (c ∷ s) (cond b (without_front_zeros s) (c ∷ s))
back_if c s e true h =
    let k : length (c ∷ s) - length (without_front_zeros s) ≡ length s - length (without_front_zeros s) + 1 = omega (arith, length-front s) in
    push_reversed c s ∙ tenfold (digits_value 10 (reverse s)) (digit_value c) (digits_value 10 (reverse (without_front_zeros s))) (length s - length (without_front_zeros s)) (length (c ∷ s) - length (without_front_zeros s)) (zero_is c h) e k
back_if c s e false h = unmoved (digits_value 10 (reverse (c ∷ s))) (length (c ∷ s) - length (c ∷ s)) (omega arith)

back_value : (s : List ℕ) → Shortens s (without_front_zeros s)
back_value [] = refl
back_value (c ∷ s) = back_if c s (back_value s) (c == 48) refl

abbrev cut : List ℕ → ℕ
cut s = length (without_front_zeros s) - length (without_zeros s)

bare_value : (s : List ℕ) → digits_value 10 s ≡ digits_value 10 (without_zeros s) * 10 ^ cut s
bare_value s =
    let w = without_front_zeros s in
    let k : length (reverse w) - length (without_front_zeros (reverse w)) ≡ cut s = omega (arith, length-reverse w, length-reverse (without_front_zeros (reverse w))) in
    sym (front_value s) ∙ ap (digits_value 10) (sym (reverse-reverse w)) ∙ back_value (reverse w) ∙ ap (λ (n : ℕ). digits_value 10 (without_zeros s) * 10 ^ n) k

-- ---- the same number

shifted : (b k up more d : ℕ) → d ≡ k + up + more → b * 10 ^ d ≡ b * 10 ^ k * 10 ^ up * 10 ^ more
shifted b k up more d h = rw (h, pow-add 10 (k + up) more, pow-add 10 k up) (omega arith)

by_sign : (f : Format) (m : Bool) (b k up down : ℕ) (z : ℤ) → z +ℤ pos down ≡ pos (k + up) → nearest_to_decimal f m b z ≡ round f m (b * 10 ^ k * 10 ^ up) (10 ^ down)
by_sign f m b k up down (pos n) h = round_same f m (b * 10 ^ n) 1 (b * 10 ^ k * 10 ^ up) (10 ^ down) (lit< tt) (ten_to_pos down) (tens_eq b n down k up (omega (arith, ints, h)) ∙ sym (mul-one _))
by_sign f m b k up down (negsuc n) h = round_same f m b (10 ^ suc n) (b * 10 ^ k * 10 ^ up) (10 ^ down) (ten_to_pos (suc n)) (ten_to_pos down) (shifted b k up (suc n) down (omega (arith, ints, h)))

nothing : (f : Format) (m : Bool) (v up down : ℕ) → v ≡ 0 → round f m (0 * 10 ^ 0) 1 ≡ round f m (v * 10 ^ up) (10 ^ down)
nothing f m v up down h = round_same f m (0 * 10 ^ 0) 1 (v * 10 ^ up) (10 ^ down) (lit< tt) (ten_to_pos down) (rw h (omega arith))

by_digits : (f : Format) (m : Bool) (bare : List ℕ) (v k up down : ℕ) (e : ℤ) → v ≡ digits_value 10 bare * 10 ^ k → e +ℤ pos down ≡ pos up
    → nearest_to_decimal f m (digits_value 10 bare) (cond (is_empty bare) (pos 0) (e +ℤ pos k)) ≡ round f m (v * 10 ^ up) (10 ^ down)
by_digits f m [] v k up down e h g = nothing f m v up down (h ∙ omega arith)
by_digits f m (c ∷ s) v k up down e h g = by_sign f m (digits_value 10 (c ∷ s)) k up down (e +ℤ pos k) (omega (arith, ints, g)) ∙ ap (λ (n : ℕ). round f m (n * 10 ^ up) (10 ^ down)) (sym h)

abbrev tens_above : Bool → ℕ → ℕ
tens_above n e = cond n 0 e

abbrev tens_below : Bool → ℕ → ℕ
tens_below n e = cond n e 0

balanced : (n : Bool) (e places : ℕ) → (signed n e -ℤ pos places) +ℤ pos (places + tens_below n e) ≡ pos (tens_above n e)
balanced true e places = omega (arith, ints)
balanced false e places = omega (arith, ints)

same_number : (f : Format) (m : Bool) (p : Parts) (ds : List ℕ) → ds ≡ p.whole ++ p.fraction
    → nearest_to f (finite m (without_zeros ds) (normal_exponent ds (last_place p))) ≡ nearest f m p
same_number f m p ds h =
    by_digits f m (without_zeros ds) (digits_value 10 ds) (cut ds) (tens_above p.exponent_negative (digits_value 10 p.exponent)) (length p.fraction + tens_below p.exponent_negative (digits_value 10 p.exponent)) (last_place p) (bare_value ds) (balanced p.exponent_negative (digits_value 10 p.exponent) (length p.fraction))
    ∙ ap (λ s. round f m (digits_value 10 s * 10 ^ tens_above p.exponent_negative (digits_value 10 p.exponent)) (10 ^ (length p.fraction + tens_below p.exponent_negative (digits_value 10 p.exponent)))) h

-- ---- an exponent that is far out

with_sign : (m : Bool) (num den : ℕ) → round binary64 false num den ≡ round binary64 false 0 1 → round binary64 m num den ≡ round binary64 m 0 1
with_sign false num den h = h
with_sign true num den h = sym (neg-round binary64 num den) ∙ ap neg h ∙ neg-round binary64 0 1

zero_bits : of_bits binary64 0 ≡ round binary64 false 0 1
zero_bits = (nearest_of_zero binary64 0 1 (lit< tt) refl).0

far_power : (places e : ℕ) → 400 ≤ e → 10 ^ 368 ≤ 10 ^ (places + e)
far_power places e k = pow-le-pow_right {n = 10} (lit< tt) {i = 368} {j = places + e} (omega arith)

grown : (p : ℕ) → p ≤ 2 ^ 64 * p
grown p =
    let one : p ≤ 1 * p = omega arith in
    le_trans one (mul-le-mul_right p (lit≤ tt))

shrunk : (v : ℕ) → v ≤ 10 ^ 25 → v * 10 ^ 0 * 10 ^ 343 ≤ 10 ^ 368
shrunk v h = le_trans (tens_le v (10 ^ 25) 0 343 0 343 h (lit≤ tt)) (lit≤ tt)

tiny : (v places e : ℕ) → v ≤ 10 ^ 25 → 400 ≤ e → round binary64 false (v * 10 ^ 0) (10 ^ (places + e)) ≡ round binary64 false 0 1
tiny v places e h k = sym (nearest_of_tiny binary64 (v * 10 ^ 0) (10 ^ (places + e)) (ten_to_pos (places + e)) (le_trans (shrunk v h) (le_trans (far_power places e k) (grown (10 ^ (places + e)))))).0 ∙ zero_bits

infinite_not : (m : Bool) → float_is_finite (inf m) ≡ true → ⊥
unfolding float_is_finite
infinite_not m h = true≢false (sym h)

finite_unsigned : (m : Bool) (num den : ℕ) → float_is_finite (round binary64 m num den) ≡ true → round binary64 false num den ≡ inf false → ⊥
unfolding neg
finite_unsigned false num den h k = infinite_not false (ap float_is_finite (sym k) ∙ h)
finite_unsigned true num den h k = infinite_not true (ap float_is_finite (sym (sym (neg-round binary64 num den) ∙ ap neg k)) ∙ h)

one_digit_more : (places e : ℕ) → places ≤ 25 → 400 ≤ e → 309 + places ≤ e + 0
one_digit_more places e l k = omega arith

at_least_one : (v : ℕ) → 0 < v → 1 ≤ v
at_least_one v h = omega arith

huge : (v places e : ℕ) → 0 < v → places ≤ 25 → 400 ≤ e → round binary64 false (v * 10 ^ e) (10 ^ places) ≡ inf false
huge v places e h l k =
    let a : 1 * 10 ^ 309 * 10 ^ places ≤ v * 10 ^ e * 10 ^ 0 = tens_le 1 v 309 places e 0 (at_least_one v h) (one_digit_more places e l k) in
    let b : 10 ^ 309 * 10 ^ places ≤ v * 10 ^ e = subst (λ (n : ℕ). 10 ^ 309 * 10 ^ places ≤ n) (mul-one (v * 10 ^ e)) a in
    sym (nearest_of_huge binary64 (v * 10 ^ e) (10 ^ places) (ten_to_pos places) b).0 ∙ infinite_bits binary64

far_by_sign : (m n : Bool) (v places e : ℕ) → v ≤ 10 ^ 25 → places ≤ 25 → 400 ≤ e → float_is_finite (round binary64 m (v * 10 ^ tens_above n e) (10 ^ (places + tens_below n e))) ≡ true
    → round binary64 m (v * 10 ^ tens_above n e) (10 ^ (places + tens_below n e)) ≡ round binary64 m 0 1
far_by_sign m true v places e h l k f = with_sign m _ _ (tiny v places e h k)
far_by_sign m false zero places e h l k f = with_sign m _ _ (sym (nearest_of_zero binary64 (0 * 10 ^ e) (10 ^ (places + 0)) (ten_to_pos (places + 0)) (omega arith)).0 ∙ zero_bits)
far_by_sign m false (suc v) places e h l k f =
    let z : places + 0 ≡ places = omega arith in
    absurd (finite_unsigned m _ _ f (ap (λ (n : ℕ). round binary64 false (suc v * 10 ^ e) (10 ^ n)) z ∙ huge (suc v) places e (omega arith) l k))

below_power : (whole fraction : List ℕ) → AllDigits 10 whole → AllDigits 10 fraction → digits_value 10 (whole ++ fraction) ≤ 10 ^ (length whole + length fraction)
below_power whole fraction a b =
    let w : digits_value 10 whole + 1 ≤ 10 ^ length whole = omega (arith, digits_value-lt 10 whole a) in
    omega (arith, digits_value-append whole fraction, digits_value-lt 10 fraction b, mul-le-mul_right (10 ^ length fraction) w, pow-add 10 (length whole) (length fraction))

few_value : (whole fraction : List ℕ) → AllDigits 10 whole → AllDigits 10 fraction → length whole + length fraction ≤ 25 → digits_value 10 (whole ++ fraction) ≤ 10 ^ 25
few_value whole fraction a b h = le_trans (below_power whole fraction a b) (pow-le-pow_right {n = 10} (lit< tt) {i = length whole + length fraction} {j = 25} h)

pub far_is_zero : (m : Bool) (p : Parts) (x : Float) → AllDigits 10 p.whole → AllDigits 10 p.fraction → length p.whole + length p.fraction ≤ 25 → 400 ≤ digits_value 10 p.exponent
    → IsTrue (float_is_finite x) → nearest binary64 m p ≡ x → nearest_to binary64 (finite m [] (pos 0)) ≡ x
far_is_zero m p x a b h k f e =
    let v = digits_value 10 (p.whole ++ p.fraction) in
    let t : float_is_finite (nearest binary64 m p) ≡ true = ap float_is_finite e ∙ f in
    sym (far_by_sign m p.exponent_negative v (length p.fraction) (digits_value 10 p.exponent) (few_value p.whole p.fraction a b h) (omega arith) k t) ∙ e

-- ---- the exponent of the decimal

in_range_if : (b : Bool) (n : Bool) (e places k : ℕ) → e < 400 → places ≤ 25 → k ≤ 25 → InExponents (cond b (pos 0) ((signed n e -ℤ pos places) +ℤ pos k))
in_range_if true n e places k h l g = (omega (arith, ints), omega (arith, ints))
in_range_if false true e places k h l g = (omega (arith, ints), omega (arith, ints))
in_range_if false false e places k h l g = (omega (arith, ints), omega (arith, ints))

small_if : (n : Bool) (e places : ℕ) → e < 2 ^ 64 → places ≤ 25 → IsSmallExponent (signed n e -ℤ pos places)
small_if true e places h l = record { low = omega (arith, ints); high = omega (arith, ints) }
small_if false e places h l = record { low = omega (arith, ints); high = omega (arith, ints) }

near_in_range : (p : Parts) (ds : List ℕ) → ds ≡ p.whole ++ p.fraction → length p.whole + length p.fraction ≤ 25 → digits_value 10 p.exponent < 400 → InExponents (normal_exponent ds (last_place p))
near_in_range p ds h l k = in_range_if (is_empty (without_zeros ds)) p.exponent_negative (digits_value 10 p.exponent) (length p.fraction) (cut ds) k (omega arith) (omega (arith, length-front ds, ap length h, length-append p.whole p.fraction))

pub small_place : (p : Parts) (e : ℤ) → e ≡ last_place p → digits_value 10 p.exponent < 2 ^ 64 → length p.whole + length p.fraction ≤ 25 → IsSmallExponent e
small_place p e h k l = subst IsSmallExponent (sym h) (small_if p.exponent_negative (digits_value 10 p.exponent) (length p.fraction) k (omega arith))

pub held_small : (e : ℤ) → IsSmallExponent e → to_z w128 (of_z w128 e) ≡ e
held_small e h = to_z-of_z w128 e (omega (arith, ints, h.low, h.high))

pub found_is : (m : Bool) (p : Parts) (ds : List ℕ) (found : Option Decimal) → ds ≡ p.whole ++ p.fraction → length p.whole + length p.fraction ≤ 25 → IsFiniteIfInRange m ds (last_place p) found
    → MatchOption found (400 ≤ digits_value 10 p.exponent) (λ d. nearest_to binary64 d ≡ nearest binary64 m p)
found_is m p ds None h l r =
    elim (cases_lt (digits_value 10 p.exponent) 400) [
      | inl a ↦ absurd (true≢false (sym (r.in_range.1 (near_in_range p ds h l a))))
      | inr a ↦ a
    ]
found_is m p ds (Some d) h l r = ap (nearest_to binary64) r.value ∙ same_number binary64 m p ds h

-- ---- the printed text

abbrev pub is_minus : List ℕ → Bool
is_minus text = slice_index text 0 == 45

abbrev after_sign : List ℕ → List ℕ
after_sign text = drop (cond (is_minus text) 1 0) text

digit_no_minus : (c : ℕ) → digit_value c < 10 → (c == 45) ≡ false
digit_no_minus c h = let r = digit_from_value c h in grind (arith, nat_tests)

unsigned_front : (w rest : List ℕ) → 0 < length w → AllDigits 10 w → is_minus (w ++ rest) ≡ false
unsigned_front [] rest h a = absurd (omega arith)
unsigned_front (c ∷ w) rest h a = digit_no_minus c a.0

signed_front : (n : Bool) (p : Parts) → IsPlain p → (is_minus (sign_text n ++ text_of p) ≡ n) × (after_sign (sign_text n ++ text_of p) ≡ text_of p)
signed_front true p h = (refl, refl)
signed_front false p h = let e = unsigned_front p.whole _ h.whole h.well_formed.whole_digits in (e, rw e refl)

some_is : {a b : Float} → Some a ≡ Some b → a ≡ b
some_is h = cc

pub printed_nearest : (text rest : List ℕ) (x : Float) (m : Bool) (parts : Parts) → IsPlainNumber text → parse_float binary64 text ≡ Some x → m ≡ is_minus text → rest ≡ drop (cond m 1 0) text → parts ≡ scan rest → nearest binary64 m parts ≡ x
printed_nearest text rest x m parts h v s r q =
    let n = h.0 in
    let p = h.1 in
    let e = h.2 in
    let k = signed_front n p h.3 in
    let sign : m ≡ n = s ∙ ap is_minus e ∙ k.0 in
    let left : rest ≡ text_of p = r ∙ ap (λ b. drop (cond b 1 0) text) s ∙ ap after_sign e ∙ k.1 in
    let whole : parts ≡ p = q ∙ ap scan left ∙ scan-text_of p h.3.well_formed in
    rw (sign, whole) (some_is (sym (parse_float-text_of binary64 n p h.3.well_formed h.3.whole) ∙ ap (parse_float binary64) (sym e) ∙ v))

-- ---- floats that aren't finite

pub nan_is : (x : Float) → is_nan x ≡ true → not_a_number ≡ x
unfolding is_nan
nan_is not_a_number h = refl
nan_is (inf m) h = absurd (true≢false (sym h))
nan_is (fin m d e) h = absurd (true≢false (sym h))

pub infinite_is : (x : Float) → float_is_infinite x ≡ true → inf (is_sign_negative x) ≡ x
unfolding float_is_infinite is_sign_negative
infinite_is not_a_number h = absurd (true≢false (sym h))
infinite_is (inf m) h = refl
infinite_is (fin m d e) h = absurd (true≢false (sym h))

pub finite_is : (x : Float) → is_nan x ≡ false → float_is_infinite x ≡ false → IsTrue (float_is_finite x)
unfolding is_nan float_is_infinite float_is_finite
finite_is not_a_number h k = absurd (true≢false h)
finite_is (inf m) h k = absurd (true≢false k)
finite_is (fin m d e) h k = refl
