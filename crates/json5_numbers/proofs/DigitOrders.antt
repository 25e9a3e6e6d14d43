-- The order of digits times powers of ten.
use Rattle.std.proofs.Common.{◌≡◌, ℕ, ◌+◌, ◌*◌, ◌^◌, ◌<◌, ◌≤◌, Bool, true, false, ◌||◌, List, [], ◌∷◌, ◌++◌, length, refl, ap, sym, subst, ◌∙◌, arith, lit<, true≢false}
use Rattle.std.specs.Prelude.{◌==◌, reverse, ℤ, pos, negsuc, ◌+ℤ◌, ◌-ℤ◌, ◌≤ℤ◌, ◌<ℤ◌}
use Rattle.std.specs.Char.{digit_value}
use Rattle.std.specs.Int.{int_min}
use Rattle.std.specs.Str.Parse.{digits_value}
use Rattle.std.specs.Cmp.Lexicographic.{slice_cmp}
use Rattle.std.specs.Ordering.{MatchOrdering, nat_cmp, int_cmp, bool_cmp, ordering_then}
use Rattle.std.specs.declared.cmp.Ordering.{Ordering}
use Rattle.std.specs.declared.cmp.Ordering.TheVariants.{Less, Equal, Greater}
use Rattle.std.proofs.lemmas.Bool.Decides.{nat_tests}
use Rattle.std.proofs.lemmas.Cmp.{ranked, int_ranked}
use Rattle.std.proofs.lemmas.Int.{ints, clamps}
use Rattle.std.proofs.lemmas.Int.Digits.{digits_value-lt, digits_value_push}
use Rattle.std.proofs.lemmas.List.{reverse-append, reverse-reverse, length-reverse}
use Rattle.fast_float.proofs.DigitsLemmas.{digits_value-append}
use native.Mathlib.Nat.{mul-le-mul_right, mul-lt-mul_of_pos_right, pow-le-pow_right}
use lib.Pow.{pow-add}
use Rattle.fast_float.proofs.ExactLemmas.{ten_to_pos}
use Rattle.json5_grammar.specs.Language.Characters.{is_digit, Each, no_char, char}
use Rattle.json5_grammar.specs.Language.Numbers.{without_front_zeros, without_zeros}
use Rattle.json5_grammar.specs.Written.NumberText.{IsNormal}
use Rattle.json5_grammar.proofs.DecimalsWritten.{length-front}
use Rattle.json5_types.specs.NumberWholes.{distance}
use Rattle.json5_numbers.proofs.SpelledNumbers.{all_digits}
use Rattle.json5_numbers.specs.Orders.{size_in}
use Rattle.json5_numbers.specs.SizeOrders.{digits_cmp}

-- ---- values of digits

from_none : (n : ℕ) → 0 + n ≡ n
from_none n = omega arith

value_cons : (c : ℕ) (s : List ℕ) → digits_value 10 (c ∷ s) ≡ digit_value c * 10 ^ length s + digits_value 10 s
value_cons c s = digits_value-append (c ∷ []) s ∙ ap (λ (d : ℕ). d * 10 ^ length s + digits_value 10 s) (from_none (digit_value c))

value_below : {s : List ℕ} → Each is_digit s → digits_value 10 s < 10 ^ length s
value_below {s = s} e = digits_value-lt 10 s (all_digits e)

spread : (d p v q r : ℕ) → r ≡ p * q → (d * p + v) * q ≡ d * r + v * q
spread d p v q r h = rw h (omega arith)

value_at : (c : ℕ) (s : List ℕ) (a : ℕ) → digits_value 10 (c ∷ s) * 10 ^ a ≡ digit_value c * 10 ^ (length s + a) + digits_value 10 s * 10 ^ a
value_at c s a = ap (λ (n : ℕ). n * 10 ^ a) (value_cons c s) ∙ spread (digit_value c) (10 ^ length s) (digits_value 10 s) (10 ^ a) (10 ^ (length s + a)) (pow-add 10 (length s) a)

small_at : {s : List ℕ} (a : ℕ) → Each is_digit s → digits_value 10 s * 10 ^ a < 10 ^ (length s + a)
small_at {s = s} a e = subst (λ (n : ℕ). digits_value 10 s * 10 ^ a < n) (sym (pow-add 10 (length s) a)) (mul-lt-mul_of_pos_right (value_below e) (ten_to_pos a))

digit_is : (c : ℕ) → is_digit c ≡ true → digit_value c + 48 ≡ c
digit_is c h = grind (arith, nat_tests)

digit_some : (c : ℕ) → is_digit c ≡ true → (c == 48) ≡ false → 0 < digit_value c
digit_some c h k = grind (arith, nat_tests, digit_is c h)

-- ---- digits that are bare begin and end with another digit than 0

first_other : (c : ℕ) (t : List ℕ) → without_zeros (c ∷ t) ≡ c ∷ t → (b : Bool) → (c == 48) ≡ b → b ≡ false
first_other c t e true h =
    let k : without_front_zeros (c ∷ t) ≡ without_front_zeros t = rw h in
    absurd (omega (arith, ap length e, ap length k, length-front t, length-reverse (without_front_zeros (reverse (without_front_zeros (c ∷ t)))), length-front (reverse (without_front_zeros (c ∷ t))), length-reverse (without_front_zeros (c ∷ t))))
first_other c t e false h = refl

last_other : (c : ℕ) (t r : List ℕ) (l : ℕ) → without_zeros (c ∷ t) ≡ c ∷ t → (c == 48) ≡ false → reverse (c ∷ t) ≡ l ∷ r → (b : Bool) → (l == 48) ≡ b → b ≡ false
last_other c t r l e f k true h =
    let w : without_front_zeros (c ∷ t) ≡ c ∷ t = rw f in
    let z : without_front_zeros (l ∷ r) ≡ without_front_zeros r = rw h in
    let x : without_front_zeros (reverse (without_front_zeros (c ∷ t))) ≡ without_front_zeros r = ap (λ y. without_front_zeros (reverse y)) w ∙ ap without_front_zeros k ∙ z in
    absurd (omega (arith, ap length e, length-reverse (without_front_zeros (reverse (without_front_zeros (c ∷ t)))), ap length x, length-front r, ap length k, length-reverse (c ∷ t)))
last_other c t r l e f k false h = refl

-- whatever is cut off in front, the rest is not worth 0
abbrev Lasts : List ℕ → Type 0
Lasts [] = Unit {0}
Lasts (c ∷ s) = (0 < digits_value 10 (c ∷ s)) × Lasts s

push_some : (p : List ℕ) (l : ℕ) → 0 < digit_value l → 0 < digits_value 10 (p ++ (l ∷ []))
push_some p l h = omega (arith, digits_value_push 10 p l)

lasts_at : (p : List ℕ) (l : ℕ) → 0 < digit_value l → Lasts (p ++ (l ∷ []))
lasts_at [] l h = (push_some [] l h, tt)
lasts_at (c ∷ p) l h = (push_some (c ∷ p) l h, lasts_at p l h)

digit_first : {p : ℕ → Bool} {c : ℕ} {s : List ℕ} → Each p (c ∷ s) → p c ≡ true
digit_first (char h e) = h

digit_last : {p : ℕ → Bool} (s : List ℕ) (l : ℕ) → Each p (s ++ (l ∷ [])) → p l ≡ true
digit_last [] l (char h e) = h
digit_last (c ∷ s) l (char h e) = digit_last s l e

reversed : (c : ℕ) (t r : List ℕ) → Each is_digit (c ∷ t) → without_zeros (c ∷ t) ≡ c ∷ t → reverse (c ∷ t) ≡ r → Lasts (c ∷ t)
reversed c t [] e b k = absurd (omega (arith, ap length k, length-reverse (c ∷ t)))
reversed c t (l ∷ r) e b k =
    let s : c ∷ t ≡ reverse r ++ (l ∷ []) = sym (reverse-reverse (c ∷ t)) ∙ ap reverse k ∙ reverse-append (l ∷ []) r in
    let o = last_other c t r l b (first_other c t b (c == 48) refl) k (l == 48) refl in
    subst Lasts (sym s) (lasts_at (reverse r) l (digit_some l (digit_last (reverse r) l (subst (Each is_digit) s e)) o))

lasts : (ds : List ℕ) → Each is_digit ds → without_zeros ds ≡ ds → Lasts ds
lasts [] e b = tt
lasts (c ∷ t) e b = reversed c t (reverse (c ∷ t)) e b refl

-- ---- the order of two lists of digits that reach as far

above : (u v p a b : ℕ) → u < v → a < p → u * p + a < v * p + b
above u v p a b h l = let g : u + 1 ≤ v = omega arith in omega (arith, mul-le-mul_right p g)

level : (u v p a b : ℕ) → u ≡ v → a < b → u * p + a < v * p + b
level u v p a b h l = rw h (omega arith)

same : (u v p a b : ℕ) → u ≡ v → a ≡ b → u * p + a ≡ v * p + b
same u v p a b h l = rw (h, l) refl

module _ (x y u v p a b : ℕ) (hu : u + 48 ≡ x) (hv : v + 48 ≡ y) (la : a < p) (lb : b < p) where
  step : (o r : Ordering) → MatchOrdering o (x < y) (x ≡ y) (y < x) → MatchOrdering r (a < b) (a ≡ b) (b < a) → MatchOrdering (ordering_then o r) (u * p + a < v * p + b) (u * p + a ≡ v * p + b) (v * p + b < u * p + a)
  step Less r h k = above u v p a b (omega arith) la
  step Equal Less h k = level u v p a b (omega arith) k
  step Equal Equal h k = same u v p a b (omega arith) k
  step Equal Greater h k = level v u p b a (omega arith) k
  step Greater r h k = above v u p b a (omega arith) lb

abbrev Ranks : Ordering → ℕ → ℕ → Type 0
Ranks r x y = MatchOrdering r (x < y) (x ≡ y) (y < x)

equal_to : (r : Ordering) {x y z w : ℕ} → z ≡ x → w ≡ y → Ranks r x y → Ranks r z w
equal_to r {x = x} {w = w} h k m = subst (λ (p : ℕ). Ranks r p w) (sym h) (subst (λ (p : ℕ). Ranks r x p) (sym k) m)

by_digits : {ds fs : List ℕ} (a b : ℕ) → Each is_digit ds → Each is_digit fs → Lasts ds → Lasts fs → length ds + a ≡ length fs + b
    → Ranks (slice_cmp nat_cmp ds fs) (digits_value 10 ds * 10 ^ a) (digits_value 10 fs * 10 ^ b)
by_digits a b no_char no_char l k e = omega arith
by_digits a b no_char (char {c = y} {s = ys} h d) l k e = omega (arith, mul-lt-mul_of_pos_right k.0 (ten_to_pos b))
by_digits a b (char {c = x} {s = xs} h d) no_char l k e = omega (arith, mul-lt-mul_of_pos_right l.0 (ten_to_pos a))
by_digits a b (char {c = x} {s = xs} h d) (char {c = y} {s = ys} g f) l k e =
    let n : length xs + a ≡ length ys + b = omega arith in
    let p = 10 ^ (length xs + a) in
    let small : digits_value 10 ys * 10 ^ b < p = subst (λ (m : ℕ). digits_value 10 ys * 10 ^ b < 10 ^ m) (sym n) (small_at b f) in
    let z : digits_value 10 (y ∷ ys) * 10 ^ b ≡ digit_value y * p + digits_value 10 ys * 10 ^ b = value_at y ys b ∙ ap (λ (m : ℕ). digit_value y * 10 ^ m + digits_value 10 ys * 10 ^ b) (sym n) in
    equal_to (ordering_then (nat_cmp x y) (slice_cmp nat_cmp xs ys)) (value_at x xs a) z
    (step x y (digit_value x) (digit_value y) p (digits_value 10 xs * 10 ^ a) (digits_value 10 ys * 10 ^ b) (digit_is x h) (digit_is y g) (small_at a d) small (nat_cmp x y) (slice_cmp nat_cmp xs ys) (ranked x y (nat_cmp x y) refl) (by_digits a b d f l.1 k.1 n))

-- what reaches further is larger
by_reach : {ds : List ℕ} (c : ℕ) (t : List ℕ) (a b : ℕ) → Each is_digit ds → Each is_digit (c ∷ t) → (c == 48) ≡ false → length ds + a < length (c ∷ t) + b → digits_value 10 ds * 10 ^ a < digits_value 10 (c ∷ t) * 10 ^ b
by_reach {ds = ds} c t a b e f o h =
    let far : 10 ^ (length ds + a) ≤ 10 ^ (length t + b) = pow-le-pow_right (lit< tt) (omega arith) in
    let some : 0 < digit_value c = digit_some c (digit_first f) o in
    let one : 1 ≤ digit_value c = omega arith in
    let first : 1 * 10 ^ (length t + b) ≤ digit_value c * 10 ^ (length t + b) = mul-le-mul_right (10 ^ (length t + b)) one in
    let l : digits_value 10 ds * 10 ^ a < digit_value c * 10 ^ (length t + b) + digits_value 10 t * 10 ^ b = omega (arith, small_at a e, far, first) in
    subst (λ (n : ℕ). digits_value 10 ds * 10 ^ a < n) (sym (value_at c t b)) l

-- an order with this meaning is that of the numbers
pub is_cmp : (r : Ordering) (x y : ℕ) → Ranks r x y → r ≡ nat_cmp x y
is_cmp Less x y h = grind (arith, nat_tests)
is_cmp Equal x y h = grind (arith, nat_tests)
is_cmp Greater x y h = grind (arith, nat_tests)

-- ---- the smaller exponent

distance_is : (z : ℤ) → pos 0 ≤ℤ z → pos (distance z) ≡ z
distance_is (pos n) h = refl
distance_is (negsuc n) h = absurd (omega (arith, ints))

low_left : (e g : ℤ) → int_min e g ≤ℤ e
low_left e g = first_of (omega (arith, ints, clamps), grind (arith, ints))

low_right : (e g : ℤ) → int_min e g ≤ℤ g
low_right e g = first_of (omega (arith, ints, clamps), grind (arith, ints))

swapped : (e g l : ℤ) → e +ℤ (g -ℤ l) ≡ g +ℤ (e -ℤ l)
swapped e g l = omega (arith, ints)

-- so many steps up from the smaller exponent
steps : (e g : ℤ) → e +ℤ pos (distance (g -ℤ int_min e g)) ≡ g +ℤ pos (distance (e -ℤ int_min e g))
steps e g =
    let a = distance_is (e -ℤ int_min e g) (omega (arith, ints, low_left e g)) in
    let b = distance_is (g -ℤ int_min e g) (omega (arith, ints, low_right e g)) in
    ap (λ (z : ℤ). e +ℤ z) b ∙ swapped e g (int_min e g) ∙ sym (ap (λ (z : ℤ). g +ℤ z) a)

-- ---- two sizes

module _ (ds : List ℕ) (e : ℤ) (fs : List ℕ) (g : ℤ) (hd : IsNormal ds e) (hf : IsNormal fs g) where
  abbrev up : ℕ
  up = distance (e -ℤ int_min e g)

  abbrev over : ℕ
  over = distance (g -ℤ int_min e g)

  abbrev left : ℕ
  left = size_in (int_min e g) ds e

  abbrev right : ℕ
  right = size_in (int_min e g) fs g

  abbrev Answers : Ordering → Type 0
  Answers r = r ≡ digits_cmp ds e fs g

  pub at_one_reach : pos (length ds) +ℤ e ≡ pos (length fs) +ℤ g → Answers (slice_cmp nat_cmp ds fs)
  at_one_reach h =
      let n : length ds + up ≡ length fs + over = omega (arith, ints, steps e g, h) in
      is_cmp (slice_cmp nat_cmp ds fs) left right (by_digits up over hd.digits hf.digits (lasts ds hd.digits hd.bare) (lasts fs hf.digits hf.bare) n)

  pub below_reach : (pos (length ds) +ℤ e) <ℤ (pos (length fs) +ℤ g) → (fs ≡ [] → ⊥) → Answers Less
  below_reach h k = go fs refl
    where
      go : (s : List ℕ) → fs ≡ s → Answers Less
      go [] q = absurd (k q)
      go (c ∷ t) q =
          let n : length ds + up < length (c ∷ t) + over = omega (arith, ints, steps e g, h, ap length q) in
          let b : without_zeros (c ∷ t) ≡ c ∷ t = subst (λ s. without_zeros s ≡ s) q hf.bare in
          let l = by_reach c t up over hd.digits (subst (Each is_digit) q hf.digits) (first_other c t b (c == 48) refl) n in
          is_cmp Less left right (subst (λ s. digits_value 10 ds * 10 ^ up < digits_value 10 s * 10 ^ over) (sym q) l)

  pub above_reach : (pos (length fs) +ℤ g) <ℤ (pos (length ds) +ℤ e) → (ds ≡ [] → ⊥) → Answers Greater
  above_reach h k = go ds refl
    where
      go : (s : List ℕ) → ds ≡ s → Answers Greater
      go [] q = absurd (k q)
      go (c ∷ t) q =
          let n : length fs + over < length (c ∷ t) + up = omega (arith, ints, steps e g, h, ap length q) in
          let b : without_zeros (c ∷ t) ≡ c ∷ t = subst (λ s. without_zeros s ≡ s) q hd.bare in
          let l = by_reach c t over up hf.digits (subst (Each is_digit) q hd.digits) (first_other c t b (c == 48) refl) n in
          is_cmp Greater left right (subst (λ s. digits_value 10 fs * 10 ^ over < digits_value 10 s * 10 ^ up) (sym q) l)

  pub by_both : (ds ≡ [] → ⊥) → (fs ≡ [] → ⊥) → Answers (ordering_then (int_cmp (pos (length ds) +ℤ e) (pos (length fs) +ℤ g)) (slice_cmp nat_cmp ds fs))
  by_both h k = go (int_cmp (pos (length ds) +ℤ e) (pos (length fs) +ℤ g)) (int_ranked (pos (length ds) +ℤ e) (pos (length fs) +ℤ g) (int_cmp (pos (length ds) +ℤ e) (pos (length fs) +ℤ g)) refl)
    where
      go : (o : Ordering) → MatchOrdering o ((pos (length ds) +ℤ e) <ℤ (pos (length fs) +ℤ g)) (pos (length ds) +ℤ e ≡ pos (length fs) +ℤ g) ((pos (length fs) +ℤ g) <ℤ (pos (length ds) +ℤ e)) → Answers (ordering_then o (slice_cmp nat_cmp ds fs))
      go Less m = below_reach m k
      go Equal m = at_one_reach m
      go Greater m = above_reach m h

-- ---- zero

abbrev worth : List ℕ → ℕ → ℕ
worth ds a = digits_value 10 ds * 10 ^ a

pub worth_none : (a : ℕ) → worth [] a ≡ 0
worth_none a = omega arith

pub worth_some : (c : ℕ) (t : List ℕ) (a : ℕ) (e : ℤ) → IsNormal (c ∷ t) e → 0 < worth (c ∷ t) a
worth_some c t a e h =
    let l : 0 < digits_value 10 (c ∷ t) = (lasts (c ∷ t) h.digits h.bare).0 in
    let k : 0 * 10 ^ a < worth (c ∷ t) a = mul-lt-mul_of_pos_right l (ten_to_pos a) in
    omega (arith, k)

no_length : (c : ℕ) (t : List ℕ) → (length (c ∷ t) == 0) ≡ false
no_length c t = grind (arith, nat_tests)

-- where one has no digits
pub by_none : (ds : List ℕ) (e : ℤ) (fs : List ℕ) (g : ℤ) → IsNormal ds e → IsNormal fs g → ((length ds == 0) || (length fs == 0)) ≡ true → bool_cmp (length fs == 0) (length ds == 0) ≡ digits_cmp ds e fs g
by_none [] e [] g h k o = is_cmp Equal (size_in (int_min e g) [] e) (size_in (int_min e g) [] g) (worth_none (distance (e -ℤ int_min e g)) ∙ sym (worth_none (distance (g -ℤ int_min e g))))
by_none [] e (c ∷ t) g h k o =
    rw (no_length c t) (is_cmp Less (size_in (int_min e g) [] e) (size_in (int_min e g) (c ∷ t) g) (omega (arith, worth_none (distance (e -ℤ int_min e g)), worth_some c t (distance (g -ℤ int_min e g)) g k)))
by_none (c ∷ t) e [] g h k o =
    rw (no_length c t) (is_cmp Greater (size_in (int_min e g) (c ∷ t) e) (size_in (int_min e g) [] g) (omega (arith, worth_none (distance (g -ℤ int_min e g)), worth_some c t (distance (e -ℤ int_min e g)) e h)))
by_none (c ∷ t) e (d ∷ s) g h k o = absurd (true≢false (sym o ∙ rw (no_length c t, no_length d s) refl))

pub full : (ds : List ℕ) → (length ds == 0) ≡ false → ds ≡ [] → ⊥
full ds h k = true≢false (sym (ap (λ s. length s == 0) k) ∙ h)

-- ---- what tests and calls answer

pub left_true : (a b : Bool) → a ≡ true → (a || b) ≡ true
left_true a b h = rw h refl

pub right_true : (a b : Bool) → b ≡ true → (a || b) ≡ true
right_true true b h = refl
right_true false b h = h

pub same_bools : {a b x y : Bool} → a ≡ x → b ≡ y → bool_cmp a b ≡ bool_cmp x y
same_bools {b = b} {x = x} h k = ap (λ z. bool_cmp z b) h ∙ ap (bool_cmp x) k

pub same_orders : {a b x y : Ordering} → a ≡ x → b ≡ y → ordering_then a b ≡ ordering_then x y
same_orders {b = b} {x = x} h k = ap (λ z. ordering_then z b) h ∙ ap (ordering_then x) k

pub same_ints : {a b x y : ℤ} → a ≡ x → b ≡ y → int_cmp a b ≡ int_cmp x y
same_ints {b = b} {x = x} h k = ap (λ (z : ℤ). int_cmp z b) h ∙ ap (int_cmp x) k
