-- Schemas of whole numbers say what their types convert.
use Rattle.std.proofs.Common.{◌≡◌, ◌∙◌, ℕ, zero, suc, ◌+◌, ◌-◌, ◌*◌, ◌^◌, ◌<◌, ◌≤◌, Bool, true, false, cond, ◌&&◌, if◌then◌else◌, nat_le, nat_lt, List, [], ◌∷◌, length, Option, Some, None, refl, ap, sym, subst, arith, lit≤}
use Rattle.std.specs.Prelude.{◌==◌, reverse, ℤ, pos, negsuc, neg_ℤ, ◌+ℤ◌, ◌-ℤ◌, ◌≤ℤ◌, ◌<ℤ◌, int_le, int_lt, is_some}
use Rattle.std.specs.Char.{digit_value, encode_utf8}
use Rattle.std.specs.Fmt.{decimal as decimal_digits}
use Rattle.std.specs.Int.{int_min}
use Rattle.std.specs.Ordering.{int_cmp}
use Rattle.std.specs.Str.{chars}
use Rattle.std.specs.Str.Parse.{digits_value}
use Rattle.std.proofs.lemmas.Bool.Decides.{nat_tests}
use Rattle.std.proofs.lemmas.Fmt.{decimal_is_IsNumeral_wide}
use Rattle.std.proofs.lemmas.Int.{ints}
use Rattle.std.proofs.lemmas.Int.Digits.{digits_value_push}
use Rattle.std.proofs.lemmas.List.{reverse-append, reverse-reverse, length-reverse}
use native.Mathlib.Nat.{mul-le-mul_right, mul-lt-mul_of_pos_right, lt_of_lt_of_le}
use lib.Pow.{pow-add}
use Rattle.json5_grammar.specs.Language.Numbers.{InWhole, Number, Decimal, is_empty, normal_exponent, signed, whole, decimal, without_front_zeros, without_zeros}
use Rattle.json5_grammar.specs.Language.Trees.{Tree, null, boolean, number, text, array, object}
use Rattle.json5_types.specs.NumberWholes.{distance, is_below_zero}
use Rattle.json5_types.specs.ValueMeanings.{Datum}
use Rattle.json5_types.specs.ValueMeanings as datum
use Rattle.json5_numbers.specs.Orders.{finite_cmp, size_in}
use Rattle.json5_read.specs.TreeMeanings.{datum_of}
use Rattle.json5_de.specs.Convert.{as_number, as_whole, natural_below, integer_below, unsigned_below, signed_below}
use Rattle.json5_schema.specs.Conformance.{Answers, at_most, is_not_above, is_integral, keywords_hold}
use Rattle.json5_settings.specs.DescribedSchemas.{Says, Sound, Plain, whole_schema}
use Rattle.json5_settings.proofs.ValuesSaid.{after_one}

-- ---- digits without the zeros around them

length_if : (b : Bool) (c : ℕ) (s t : List ℕ) → length t ≤ length s → length (cond b t (c ∷ s)) ≤ length (c ∷ s)
length_if true c s t h = omega (arith, h)
length_if false c s t h = omega arith

length-front : (s : List ℕ) → length (without_front_zeros s) ≤ length s
length-front [] = omega arith
length-front (c ∷ s) = length_if (c == 48) c s (without_front_zeros s) (length-front s)

ten_to_pos : (k : ℕ) → 0 < 10 ^ k
ten_to_pos zero = omega arith
ten_to_pos (suc k) =
    let next : suc k ≡ k + 1 = omega arith in
    let more : 10 ^ suc k ≡ 10 ^ k * 10 = ap (λ (m : ℕ). 10 ^ m) next ∙ pow-add 10 k 1 in
    omega (arith, more, ten_to_pos k)

zero_is : (c : ℕ) → (c == 48) ≡ true → digit_value c ≡ 0
zero_is c h = let e : c ≡ 48 = grind (arith, nat_tests) in rw e refl

zero_first : (c : ℕ) (s : List ℕ) → (c == 48) ≡ true → digits_value 10 (c ∷ s) ≡ digits_value 10 s
zero_first c s h = let e : c ≡ 48 = grind (arith, nat_tests) in rw e refl

front_if : (c : ℕ) (s : List ℕ) → digits_value 10 (without_front_zeros s) ≡ digits_value 10 s → (b : Bool) → (c == 48) ≡ b → digits_value 10 (cond b (without_front_zeros s) (c ∷ s)) ≡ digits_value 10 (c ∷ s)
front_if c s e true h = e ∙ sym (zero_first c s h)
front_if c s e false h = refl

front_value : (s : List ℕ) → digits_value 10 (without_front_zeros s) ≡ digits_value 10 s
front_value [] = refl
front_value (c ∷ s) = front_if c s (front_value s) (c == 48) refl

push_reversed : (c : ℕ) (s : List ℕ) → digits_value 10 (reverse (c ∷ s)) ≡ digits_value 10 (reverse s) * 10 + digit_value c
push_reversed c s = ap (digits_value 10) (reverse-append (c ∷ []) s) ∙ digits_value_push 10 (reverse s) c

abbrev Shortens : List ℕ → List ℕ → Type 0
Shortens s t = digits_value 10 (reverse s) ≡ digits_value 10 (reverse t) * 10 ^ (length s - length t)

tenfold : (v d w n k : ℕ) → d ≡ 0 → v ≡ w * 10 ^ n → k ≡ n + 1 → v * 10 + d ≡ w * 10 ^ k
tenfold v d w n k h e l = let p : 10 ^ (n + 1) ≡ 10 ^ n * 10 = pow-add 10 n 1 in rw (l, h, e, p) (omega arith)

unmoved : (v k : ℕ) → k ≡ 0 → v ≡ v * 10 ^ k
unmoved v k h = rw h (omega arith)

back_if : (c : ℕ) (s : List ℕ) → Shortens s (without_front_zeros s) → (b : Bool) → (c == 48) ≡ b → Shortens (c ∷ s) (cond b (without_front_zeros s) (c ∷ s))
back_if c s e true h =
    let k : length (c ∷ s) - length (without_front_zeros s) ≡ length s - length (without_front_zeros s) + 1 = omega (arith, length-front s) in
    push_reversed c s ∙ tenfold (digits_value 10 (reverse s)) (digit_value c) (digits_value 10 (reverse (without_front_zeros s))) (length s - length (without_front_zeros s)) (length (c ∷ s) - length (without_front_zeros s)) (zero_is c h) e k
back_if c s e false h = unmoved (digits_value 10 (reverse (c ∷ s))) (length (c ∷ s) - length (c ∷ s)) (omega arith)

back_value : (s : List ℕ) → Shortens s (without_front_zeros s)
back_value [] = refl
back_value (c ∷ s) = back_if c s (back_value s) (c == 48) refl

abbrev cut : List ℕ → ℕ
cut s = length (without_front_zeros s) - length (without_zeros s)

bare_value : (s : List ℕ) → digits_value 10 s ≡ digits_value 10 (without_zeros s) * 10 ^ cut s
bare_value s =
    let w = without_front_zeros s in
    let k : length (reverse w) - length (without_front_zeros (reverse w)) ≡ cut s = omega (arith, length-reverse w, length-reverse (without_front_zeros (reverse w))) in
    sym (front_value s) ∙ ap (digits_value 10) (sym (reverse-reverse w)) ∙ back_value (reverse w) ∙ ap (λ (n : ℕ). digits_value 10 (without_zeros s) * 10 ^ n) k

-- ---- sizes in units of the same power of ten

-- n is so many digits times ten to the exponent, which isn't below zero
record IsWorth (ds : List ℕ) (e : ℤ) (n : ℕ) : Type 0 where
  places : ℕ
  exponent : e ≡ pos places
  value : n ≡ digits_value 10 ds * 10 ^ places

worth_if : (ds : List ℕ) (n k : ℕ) → n ≡ digits_value 10 ds * 10 ^ k → IsWorth ds (cond (is_empty ds) (pos 0) (pos 0 +ℤ pos k)) n
worth_if [] n k h = record { places = 0; exponent = refl; value = h ∙ none (10 ^ k) }
  where
    none : (p : ℕ) → 0 * p ≡ 0 * 1
    none p = omega arith
worth_if (c ∷ s) n k h = record { places = k; exponent = omega (arith, ints); value = h }

worth : (n : ℕ) → n < 10 ^ 64 → IsWorth (without_zeros (decimal_digits n)) (normal_exponent (decimal_digits n) (pos 0)) n
worth n h =
    let ds = decimal_digits n in
    worth_if (without_zeros ds) n (cut ds) (sym (decimal_is_IsNumeral_wide n h).1 ∙ bare_value ds)

apart : (k low : ℕ) → low ≤ k → distance (pos k -ℤ pos low) ≡ k - low
apart k low h = let d : pos k -ℤ pos low ≡ pos (k - low) = omega (arith, ints, h) in ap distance d

regroup : (v p q : ℕ) → v * (p * q) ≡ v * p * q
regroup v p q = grind arith

sized : (ds : List ℕ) (k low n : ℕ) → low ≤ k → n ≡ digits_value 10 ds * 10 ^ k → n ≡ size_in (pos low) ds (pos k) * 10 ^ low
sized ds k low n h e =
    let v = digits_value 10 ds in
    let sum : k ≡ (k - low) + low = omega (arith, h) in
    let power : 10 ^ k ≡ 10 ^ (k - low) * 10 ^ low = ap (λ (m : ℕ). 10 ^ m) sum ∙ pow-add 10 (k - low) low in
    e ∙ (ap (λ (q : ℕ). v * q) power ∙ (regroup v (10 ^ (k - low)) (10 ^ low) ∙ ap (λ (m : ℕ). v * 10 ^ m * 10 ^ low) (sym (apart k low h))))

-- the smaller exponent
record Lower (k l : ℕ) : Type 0 where
  low : ℕ
  is : int_min (pos k) (pos l) ≡ pos low
  first : low ≤ k
  second : low ≤ l

lower : (k l : ℕ) → Lower k l
lower k l = by (int_lt (pos l) (pos k)) refl
  where
    by : (b : Bool) → int_lt (pos l) (pos k) ≡ b → Lower k l
    by true e = record { low = l; is = rw e refl; first = grind (arith, ints, nat_tests, e); second = omega arith }
    by false e = record { low = k; is = rw e refl; first = omega arith; second = grind (arith, ints, nat_tests, e) }

-- ---- orders

not_above_is : (x y : ℤ) → is_not_above (Some (int_cmp x y)) ≡ int_le x y
not_above_is (pos a) (pos b) = grind (arith, ints, nat_tests)
not_above_is (pos a) (negsuc b) = refl
not_above_is (negsuc a) (pos b) = refl
not_above_is (negsuc a) (negsuc b) = grind (arith, ints, nat_tests)

same_tests : (x y z w : ℤ) → (x ≤ℤ y → z ≤ℤ w) → (y <ℤ x → w <ℤ z) → int_le x y ≡ int_le z w
same_tests x y z w up down = by (int_le x y) refl
  where
    by : (b : Bool) → int_le x y ≡ b → b ≡ int_le z w
    by true e = let h : x ≤ℤ y = grind (arith, ints, e) in let k = up h in grind (arith, ints, k)
    by false e = let h : y <ℤ x = grind (arith, ints, e) in let k = down h in grind (arith, ints, k)

grown : (a p : ℕ) → 0 < p → a ≤ a * p
grown a p h =
    let one : 1 ≤ p = omega (arith, h) in
    let more : 1 * a ≤ p * a = mul-le-mul_right a one in
    let turned : p * a ≡ a * p = grind arith in
    omega (arith, more, turned)

-- each size so many times
scaled : (m n : Bool) (a b p : ℕ) → 0 < p → int_le (signed m a) (signed n b) ≡ int_le (signed m (a * p)) (signed n (b * p))
scaled m n a b p h =
    let le : (x y : ℕ) → x ≤ y → x * p ≤ y * p = λ x y k. mul-le-mul_right p k in
    let lt : (x y : ℕ) → x < y → x * p < y * p = λ x y k. mul-lt-mul_of_pos_right k h in
    by m n (le a b) (le b a) (lt a b) (lt b a) (grown a p h) (grown b p h)
  where
    by : (m n : Bool) → (a ≤ b → a * p ≤ b * p) → (b ≤ a → b * p ≤ a * p) → (a < b → a * p < b * p) → (b < a → b * p < a * p) → a ≤ a * p → b ≤ b * p
        → int_le (signed m a) (signed n b) ≡ int_le (signed m (a * p)) (signed n (b * p))
    by false false f g s t x y = same_tests (pos a) (pos b) (pos (a * p)) (pos (b * p)) (λ q. let r = f (omega (arith, ints, q)) in omega (arith, ints, r)) (λ q. let r = t (omega (arith, ints, q)) in omega (arith, ints, r))
    by true true f g s t x y = same_tests (neg_ℤ (pos a)) (neg_ℤ (pos b)) (neg_ℤ (pos (a * p))) (neg_ℤ (pos (b * p))) (λ q. let r = g (omega (arith, ints, q)) in omega (arith, ints, r)) (λ q. let r = s (omega (arith, ints, q)) in omega (arith, ints, r))
    by false true f g s t x y = same_tests (pos a) (neg_ℤ (pos b)) (pos (a * p)) (neg_ℤ (pos (b * p))) (λ q. nothing_left (omega (arith, ints, q)) (omega (arith, ints, q))) (λ q. omega (arith, ints, q, x, y))
      where
        nothing_left : a ≡ 0 → b ≡ 0 → pos (a * p) ≤ℤ neg_ℤ (pos (b * p))
        nothing_left i j = rw (i, j) (omega (arith, ints))
    by true false f g s t x y = same_tests (neg_ℤ (pos a)) (pos b) (neg_ℤ (pos (a * p))) (pos (b * p)) (λ q. omega (arith, ints)) (λ q. absurd (omega (arith, ints, q)))

in_order : (m n : Bool) (ds fs : List ℕ) (e g : ℤ) (x y : ℕ) → IsWorth ds e x → IsWorth fs g y → is_not_above (Some (finite_cmp m ds e n fs g)) ≡ int_le (signed m x) (signed n y)
in_order m n ds fs e g x y v w =
    let l = lower v.places w.places in
    let a = size_in (pos l.low) ds (pos v.places) in
    let b = size_in (pos l.low) fs (pos w.places) in
    let first : x ≡ a * 10 ^ l.low = sized ds v.places l.low x l.first v.value in
    let second : y ≡ b * 10 ^ l.low = sized fs w.places l.low y l.second w.value in
    rw (v.exponent, w.exponent, l.is)
    (not_above_is (signed m a) (signed n b)
    ∙ (scaled m n a b (10 ^ l.low) (ten_to_pos l.low)
    ∙ (ap (λ (t : ℕ). int_le (signed m t) (signed n (b * 10 ^ l.low))) (sym first) ∙ ap (λ (t : ℕ). int_le (signed m x) (signed n t)) (sym second))))

parts : (z : ℤ) → signed (is_below_zero z) (distance z) ≡ z
parts (pos n) = refl
parts (negsuc n) = refl

near : (z : ℤ) → InWhole z → distance z < 10 ^ 64
near (pos n) h = let k : n < 2 ^ 128 = omega (arith, ints, h.1) in lt_of_lt_of_le k (lit≤ tt)
near (negsuc n) h = let k : suc n < 2 ^ 128 = omega (arith, ints, h.0) in lt_of_lt_of_le k (lit≤ tt)

pub wholes_ordered : (z w : ℤ) → InWhole z → InWhole w → at_most (datum.number (whole z)) (datum.number (whole w)) ≡ int_le z w
wholes_ordered z w h k =
    in_order (is_below_zero z) (is_below_zero w) (without_zeros (decimal_digits (distance z))) (without_zeros (decimal_digits (distance w))) (normal_exponent (decimal_digits (distance z)) (pos 0)) (normal_exponent (decimal_digits (distance w)) (pos 0)) (distance z) (distance w)
    (worth (distance z) (near z h)) (worth (distance w) (near w k))
    ∙ (ap (λ (t : ℤ). int_le t (signed (is_below_zero w) (distance w))) (parts z) ∙ ap (int_le z) (parts w))

-- ---- whole numbers within bounds

whole_keywords : (w : Answers) (root : Datum) (low high z : ℤ) → keywords_hold w root (whole_schema low high) (whole_schema low high) (datum.number (whole z))
    ≡ (at_most (datum.number (whole low)) (datum.number (whole z)) && (at_most (datum.number (whole z)) (datum.number (whole high)) && true))
unfolding encode_utf8 chars
whole_keywords w root low high z = refl

decimal_keywords : (w : Answers) (root : Datum) (low high : ℤ) (d : Decimal) → keywords_hold w root (whole_schema low high) (whole_schema low high) (datum.number (decimal d))
    ≡ (is_integral d && (at_most (datum.number (whole low)) (datum.number (decimal d)) && (at_most (datum.number (decimal d)) (datum.number (whole high)) && true)))
unfolding encode_utf8 chars
decimal_keywords w root low high d = refl

last_true : (a b : Bool) → (a && (b && true)) ≡ (a && b)
last_true true true = refl
last_true true false = refl
last_true false b = refl

module _ {C : Type 0} (low high : ℤ) (low_in : InWhole low) (high_in : InWhole high) (f : ℤ → Option C) (fits : (z : ℤ) → (int_le low z && int_le z high) ≡ is_some (f z)) where
  whole_holds : (w : Answers) (root : Datum) (t : Tree) → Sound t → Plain t → keywords_hold w root (whole_schema low high) (whole_schema low high) (datum_of t) ≡ is_some (as_number (as_whole f) t)
  unfolding encode_utf8 chars
  whole_holds w root (number (whole z)) s p =
      whole_keywords w root low high z
      ∙ (rw (wholes_ordered low z low_in s, wholes_ordered z high s high_in) (last_true (int_le low z) (int_le z high)) ∙ fits z)
  whole_holds w root (number (decimal d)) s p = decimal_keywords w root low high d ∙ rw p refl
  whole_holds w root null s p = refl
  whole_holds w root (boolean b) s p = refl
  whole_holds w root (text u e) s p = refl
  whole_holds w root (array ts) s p = refl
  whole_holds w root (object ps) s p = refl

  pub whole_says : Says (whole_schema low high) (as_number (as_whole f))
  whole_says = after_one (whole_schema low high) (as_number (as_whole f)) whole_holds

some_if : {C : Type 0} (b : Bool) (c : C) → b ≡ is_some (if b then Some c else None)
some_if true c = refl
some_if false c = refl

natural_fits : (bound : ℕ) → 0 < bound → (z : ℤ) → (int_le (pos 0) z && int_le z (pos (bound - 1))) ≡ is_some (natural_below bound z)
natural_fits bound h (pos n) = let same : (int_le (pos 0) (pos n) && int_le (pos n) (pos (bound - 1))) ≡ nat_lt n bound = grind (arith, ints, nat_tests) in same ∙ some_if (nat_lt n bound) n
natural_fits bound h (negsuc n) = refl

integer_fits : (bound : ℕ) → 0 < bound → (z : ℤ) → (int_le (negsuc (bound - 1)) z && int_le z (pos (bound - 1))) ≡ is_some (integer_below bound z)
integer_fits bound h (pos n) = let same : (int_le (negsuc (bound - 1)) (pos n) && int_le (pos n) (pos (bound - 1))) ≡ nat_lt n bound = grind (arith, ints, nat_tests) in same ∙ some_if (nat_lt n bound) (pos n)
integer_fits bound h (negsuc n) = let same : (int_le (negsuc (bound - 1)) (negsuc n) && int_le (negsuc n) (pos (bound - 1))) ≡ nat_lt n bound = grind (arith, ints, nat_tests) in same ∙ some_if (nat_lt n bound) (negsuc n)

-- from 0 to below the bound
pub natural_says : (bound : ℕ) → 0 < bound → bound ≤ 2 ^ 128 → Says (whole_schema (pos 0) (pos (bound - 1))) (unsigned_below bound)
natural_says bound h k = whole_says (pos 0) (pos (bound - 1)) (omega (arith, ints), omega (arith, ints)) (omega (arith, ints), omega (arith, ints, h, k)) (natural_below bound) (natural_fits bound h)

-- from the bound's negative to below the bound
pub integer_says : (bound : ℕ) → 0 < bound → bound ≤ 2 ^ 127 → Says (whole_schema (negsuc (bound - 1)) (pos (bound - 1))) (signed_below bound)
integer_says bound h k = whole_says (negsuc (bound - 1)) (pos (bound - 1)) (omega (arith, ints, h, k), omega (arith, ints)) (omega (arith, ints), omega (arith, ints, h, k)) (integer_below bound) (integer_fits bound h)

-- to so many
pub naturals_say : (most : ℕ) → most < 2 ^ 128 → Says (whole_schema (pos 0) (pos most)) (unsigned_below (most + 1))
naturals_say most h = let same : most + 1 - 1 ≡ most = omega arith in subst (λ n. Says (whole_schema (pos 0) (pos n)) (unsigned_below (most + 1))) same (natural_says (most + 1) (omega arith) (omega (arith, h)))

pub integers_say : (most : ℕ) → most < 2 ^ 127 → Says (whole_schema (negsuc most) (pos most)) (signed_below (most + 1))
integers_say most h = let same : most + 1 - 1 ≡ most = omega arith in subst (λ n. Says (whole_schema (negsuc n) (pos n)) (signed_below (most + 1))) same (integer_says (most + 1) (omega arith) (omega (arith, h)))
