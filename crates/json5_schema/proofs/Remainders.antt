-- Remainders of digits, and when digits times a power of ten are a multiple.
use Rattle.std.proofs.Common.{◌≡◌, ◌∙◌, ℕ, zero, suc, ◌+◌, ◌-◌, ◌*◌, ◌^◌, ◌%◌, ◌/◌, ◌<◌, ◌≤◌, Bool, true, false, nat_eq, get_or, take, List, [], ◌∷◌, ◌++◌, length, refl, ap, sym, subst, arith, ne_eqb}
use Rattle.std.specs.Prelude.{◌==◌, reverse, ℤ, pos, negsuc, ◌+ℤ◌, ◌-ℤ◌, ◌<ℤ◌}
use Rattle.std.specs.Char.{digit_value}
use Rattle.std.specs.Int.{int_min}
use Rattle.std.specs.Str.Parse.{digits_value}
use Rattle.std.proofs.lemmas.Bool.Decides.{nat_tests}
use Rattle.std.proofs.lemmas.Int.{ints, clamps}
use Rattle.std.proofs.lemmas.Int.Digits.{digits_value_push, digits_value_more}
use Rattle.std.proofs.lemmas.List.{reverse-append, reverse-reverse, length-reverse}
use Rattle.std.proofs.lemmas.Nat.{mul-mod_first, mod-mul-add, div-add-mod'}
use Rattle.std.proofs.Math.Nat.{mod-add-mod, mul-mod_left}
use native.Mathlib.Nat.{mul-lt-mul_of_pos_right}
use lib.Pow.{pow-add}
use Rattle.json5_grammar.specs.Language.Characters.{is_digit, Each, no_char, char}
use Rattle.json5_grammar.specs.Language.Numbers.{is_empty, without_front_zeros, without_zeros}
use Rattle.json5_grammar.specs.Written.NumberText.{IsNormal}
use Rattle.json5_grammar.proofs.DecimalsWritten.{length-front}
use Rattle.json5_types.specs.NumberWholes.{distance}
use Rattle.json5_numbers.specs.Orders.{size_in}
use Rattle.json5_schema.specs.Conformance.{divides, digits_divide}

-- ---- remainders

-- one digit more
pub digit_more : (v c d : ℕ) → (v % d * 10 + c) % d ≡ (v * 10 + c) % d
digit_more v c d = sym (mod-add-mod (v % d * 10) d c) ∙ (ap (λ (r : ℕ). (r + c) % d) (mul-mod_first v 10 d) ∙ mod-add-mod (v * 10) d c)

spread : (v p q : ℕ) → q ≡ p * 10 → v * p * 10 ≡ v * q
spread v p q h = rw h (omega arith)

-- one zero more
pub zero_more : (v i d : ℕ) → (v * 10 ^ i % d * 10) % d ≡ (v * 10 ^ (i + 1)) % d
zero_more v i d = mul-mod_first (v * 10 ^ i) 10 d ∙ ap (λ (n : ℕ). n % d) (spread v (10 ^ i) (10 ^ (i + 1)) (pow-add 10 i 1))

-- the digits are read one by one
pub digit_from : (bs : List ℕ) (i : ℕ) → Each is_digit bs → i < length bs → digit_value (get_or bs i 0) + 48 ≡ get_or bs i 0
digit_from [] i no_char h = absurd (omega (arith, h))
digit_from (c ∷ s) zero (char d e) h = digit_is c d
  where
    digit_is : (c : ℕ) → is_digit c ≡ true → digit_value c + 48 ≡ c
    digit_is c h = grind (arith, nat_tests)
digit_from (c ∷ s) (suc i) (char d e) h = digit_from s i e (omega (arith, h))

pub remainder_step : (ds bs : List ℕ) (i rest x d : ℕ) → bs ≡ ds → Each is_digit ds → i < length bs → rest ≡ digits_value 10 (take i ds) % d → x ≡ get_or bs i 0 - 48
    → (rest * 10 + x) % d ≡ digits_value 10 (take (i + 1) ds) % d
remainder_step ds bs i rest x d same e h r w =
    let digits : Each is_digit bs = subst (Each is_digit) (sym same) e in
    let worth : x ≡ digit_value (get_or bs i 0) = omega (arith, w, digit_from bs i digits h) in
    let more : digits_value 10 (take (i + 1) bs) ≡ digits_value 10 (take i bs) * 10 + digit_value (get_or bs i 0) = digits_value_more 10 bs i h in
    ap (λ (m : ℕ). (m * 10 + x) % d) (r ∙ ap (λ (s : List ℕ). digits_value 10 (take i s) % d) (sym same))
    ∙ (digit_more (digits_value 10 (take i bs)) x d
    ∙ (ap (λ (y : ℕ). (digits_value 10 (take i bs) * 10 + y) % d) worth
    ∙ (ap (λ (n : ℕ). n % d) (sym more) ∙ ap (λ (s : List ℕ). digits_value 10 (take (i + 1) s) % d) same)))

pub digit_above : (ds bs : List ℕ) (i : ℕ) → bs ≡ ds → Each is_digit ds → i < length bs → 48 ≤ get_or bs i 0
digit_above ds bs i same e h = omega (arith, digit_from bs i (subst (Each is_digit) (sym same) e) h)

-- ---- digits that are bare don't end in zero

first_other : (c : ℕ) (t : List ℕ) → without_zeros (c ∷ t) ≡ c ∷ t → (b : Bool) → (c == 48) ≡ b → b ≡ false
first_other c t e true h =
    let k : without_front_zeros (c ∷ t) ≡ without_front_zeros t = rw h in
    absurd (omega (arith, ap length e, ap length k, length-front t, length-reverse (without_front_zeros (reverse (without_front_zeros (c ∷ t)))), length-front (reverse (without_front_zeros (c ∷ t))), length-reverse (without_front_zeros (c ∷ t))))
first_other c t e false h = refl

last_other : (c : ℕ) (t r : List ℕ) (l : ℕ) → without_zeros (c ∷ t) ≡ c ∷ t → (c == 48) ≡ false → reverse (c ∷ t) ≡ l ∷ r → (b : Bool) → (l == 48) ≡ b → b ≡ false
last_other c t r l e f k true h =
    let w : without_front_zeros (c ∷ t) ≡ c ∷ t = rw f in
    let z : without_front_zeros (l ∷ r) ≡ without_front_zeros r = rw h in
    let x : without_front_zeros (reverse (without_front_zeros (c ∷ t))) ≡ without_front_zeros r = ap (λ y. without_front_zeros (reverse y)) w ∙ ap without_front_zeros k ∙ z in
    absurd (omega (arith, ap length e, length-reverse (without_front_zeros (reverse (without_front_zeros (c ∷ t)))), ap length x, length-front r, ap length k, length-reverse (c ∷ t)))
last_other c t r l e f k false h = refl

digit_last : {p : ℕ → Bool} (s : List ℕ) (l : ℕ) → Each p (s ++ (l ∷ [])) → p l ≡ true
digit_last [] l (char h e) = h
digit_last (c ∷ s) l (char h e) = digit_last s l e

digit_between : (c : ℕ) → is_digit c ≡ true → (c == 48) ≡ false → (0 < digit_value c) × (digit_value c < 10)
digit_between c h k = (grind (arith, nat_tests), grind (arith, nat_tests))

-- what the last digit leaves
last_left : (s : List ℕ) (l : ℕ) → digit_value l < 10 → digits_value 10 (s ++ (l ∷ [])) % 10 ≡ digit_value l
last_left s l h = ap (λ (n : ℕ). n % 10) (digits_value_push 10 s l) ∙ mod-mul-add (digits_value 10 s) 10 (digit_value l) h

ends_in : (c : ℕ) (t r : List ℕ) → Each is_digit (c ∷ t) → without_zeros (c ∷ t) ≡ c ∷ t → reverse (c ∷ t) ≡ r → 0 < digits_value 10 (c ∷ t) % 10
ends_in c t [] e b k = absurd (omega (arith, ap length k, length-reverse (c ∷ t)))
ends_in c t (l ∷ r) e b k =
    let s : c ∷ t ≡ reverse r ++ (l ∷ []) = sym (reverse-reverse (c ∷ t)) ∙ ap reverse k ∙ reverse-append (l ∷ []) r in
    let o = last_other c t r l b (first_other c t b (c == 48) refl) k (l == 48) refl in
    let d = digit_between l (digit_last (reverse r) l (subst (Each is_digit) s e)) o in
    let left : digits_value 10 (c ∷ t) % 10 ≡ digit_value l = ap (λ y. digits_value 10 y % 10) s ∙ last_left (reverse r) l d.1 in
    omega (arith, left, d.0)

-- a multiple of a number times ten leaves nothing at ten
ten_left : (n d : ℕ) → n % (d * 10) ≡ 0 → n % 10 ≡ 0
ten_left n d h =
    let whole : n ≡ n / (d * 10) * (d * 10) = omega (arith, div-add-mod' n (d * 10), h) in
    let turned : n ≡ n / (d * 10) * d * 10 = whole ∙ sym (times (n / (d * 10)) d 10) in
    ap (λ (m : ℕ). m % 10) turned ∙ mul-mod_left (n / (d * 10) * d) 10
  where
    times : (a b c : ℕ) → a * b * c ≡ a * (b * c)
    times a b c = grind arith

-- ---- the smaller exponent

min_right : (e g : ℤ) (z : ℕ) → e ≡ g +ℤ pos z → int_min e g ≡ g
min_right e g z h = first_of (omega (arith, ints, clamps, h), grind (arith, ints, h))

min_left : (e g : ℤ) → e <ℤ g → int_min e g ≡ e
min_left e g h = first_of (omega (arith, ints, clamps, h), grind (arith, ints, h))

-- so many steps, by the distance
apart : (e g : ℤ) (z : ℕ) → e ≡ g +ℤ pos z → distance (e -ℤ g) ≡ z
apart e g z h = let d : e -ℤ g ≡ pos z = omega (arith, ints, h) in ap distance d

none_apart : (g : ℤ) → distance (g -ℤ g) ≡ 0
none_apart g = let d : g -ℤ g ≡ pos 0 = omega (arith, ints) in ap distance d

some_apart : (z : ℤ) → pos 0 <ℤ z → (k : ℕ) × (distance z ≡ suc k)
some_apart (pos zero) h = absurd (omega (arith, ints, h))
some_apart (pos (suc k)) h = (k, refl)
some_apart (negsuc n) h = absurd (omega (arith, ints, h))

by_one : (n : ℕ) → n * 10 ^ 0 ≡ n
by_one n = omega arith

times_ten : (n k : ℕ) → n * 10 ^ suc k ≡ n * 10 ^ k * 10
times_ten n k = let next : suc k ≡ k + 1 = omega arith in ap (λ (m : ℕ). n * 10 ^ m) next ∙ sym (spread n (10 ^ k) (10 ^ (k + 1)) (pow-add 10 k 1))

pub ten_to_pos : (k : ℕ) → 0 < 10 ^ k
ten_to_pos zero = omega arith
ten_to_pos (suc k) =
    let next : suc k ≡ k + 1 = omega arith in
    let more : 10 ^ suc k ≡ 10 ^ k * 10 = ap (λ (m : ℕ). 10 ^ m) next ∙ pow-add 10 k 1 in
    omega (arith, more, ten_to_pos k)

positive_product : (d p : ℕ) → 0 < d → 0 < p → 0 < d * p
positive_product d p h k = let l : 0 * p < d * p = mul-lt-mul_of_pos_right h k in omega (arith, l)

some_product : (d p : ℕ) → nat_eq d 0 ≡ false → 0 < p → nat_eq (d * p) 0 ≡ false
some_product d p h k =
    let some : 0 < d = grind (arith, nat_tests, h) in
    ne_eqb (d * p) 0 (λ q. omega (arith, positive_product d p some k, q))

nothing_left : (d : ℕ) → 0 % d ≡ 0
nothing_left d = ap (λ (n : ℕ). n % d) none ∙ mul-mod_left 0 d
  where
    none : 0 ≡ 0 * d
    none = omega arith

-- ---- what the code answers

same_divides : {a b c d : ℕ} → a ≡ c → b ≡ d → divides a b ≡ divides c d
same_divides {b = b} {c = c} h k = ap (λ (n : ℕ). divides n b) h ∙ ap (divides c) k

divides_by : (d n r : ℕ) → nat_eq d 0 ≡ false → r ≡ n % d → nat_eq r 0 ≡ divides d n
divides_by d n r h k = rw (h, k) refl

never_divides : (d n : ℕ) → nat_eq d 0 ≡ false → nat_eq (n % d) 0 ≡ false → false ≡ divides d n
never_divides d n h k = rw (h, k) refl

zero_divided : (d : ℕ) → nat_eq d 0 ≡ false → true ≡ divides d 0
zero_divided d h = rw (h, nothing_left d) refl

-- the divisor's exponent is no larger
pub divides_up : (fs : List ℕ) (g : ℤ) (ds : List ℕ) (e : ℤ) (z r d : ℕ) → d ≡ digits_value 10 fs → nat_eq d 0 ≡ false → e ≡ g +ℤ pos z → r ≡ digits_value 10 ds % d * 10 ^ z % d
    → nat_eq r 0 ≡ digits_divide fs g ds e
divides_up fs g ds e z r d same some h k =
    let low = min_right e g z h in
    let right : size_in (int_min e g) fs g ≡ d =
    ap (λ (l : ℤ). size_in l fs g) low ∙ (ap (λ (n : ℕ). digits_value 10 fs * 10 ^ n) (none_apart g) ∙ (by_one (digits_value 10 fs) ∙ sym same)) in
    let left : size_in (int_min e g) ds e ≡ digits_value 10 ds * 10 ^ z =
    ap (λ (l : ℤ). size_in l ds e) low ∙ ap (λ (n : ℕ). digits_value 10 ds * 10 ^ n) (apart e g z h) in
    divides_by d (digits_value 10 ds * 10 ^ z) r some (k ∙ mul-mod_first (digits_value 10 ds) (10 ^ z) d) ∙ sym (same_divides right left)

-- digits that don't end in zero are no multiple of ten
indivisible : (f k : ℕ) (ds : List ℕ) → nat_eq f 0 ≡ false → Each is_digit ds → without_zeros ds ≡ ds → is_empty ds ≡ divides (f * 10 ^ suc k) (digits_value 10 ds)
indivisible f k [] some d b = zero_divided (f * 10 ^ suc k) (some_product f (10 ^ suc k) some (ten_to_pos (suc k)))
indivisible f k (c ∷ t) some d b =
    let n = digits_value 10 (c ∷ t) in
    let ends = ends_in c t (reverse (c ∷ t)) d b refl in
    let left : nat_eq (n % (f * 10 ^ suc k)) 0 ≡ false =
    ne_eqb (n % (f * 10 ^ suc k)) 0 (λ q. omega (arith, ends, ten_left n (f * 10 ^ k) (ap (λ (m : ℕ). n % m) (sym (times_ten f k)) ∙ q))) in
    never_divides (f * 10 ^ suc k) n (some_product f (10 ^ suc k) some (ten_to_pos (suc k))) left

-- the divisor's exponent is larger
pub divides_down : (fs : List ℕ) (g : ℤ) (ds : List ℕ) (e : ℤ) (d : ℕ) → d ≡ digits_value 10 fs → nat_eq d 0 ≡ false → e <ℤ g → IsNormal ds e → is_empty ds ≡ digits_divide fs g ds e
divides_down fs g ds e d same some h normal =
    let low = min_left e g h in
    let k = some_apart (g -ℤ e) (omega (arith, ints, h)) in
    let right : size_in (int_min e g) fs g ≡ d * 10 ^ suc k.0 =
    ap (λ (l : ℤ). size_in l fs g) low ∙ (ap (λ (n : ℕ). digits_value 10 fs * 10 ^ n) k.1 ∙ ap (λ (n : ℕ). n * 10 ^ suc k.0) (sym same)) in
    let left : size_in (int_min e g) ds e ≡ digits_value 10 ds =
    ap (λ (l : ℤ). size_in l ds e) low ∙ (ap (λ (n : ℕ). digits_value 10 ds * 10 ^ n) (none_apart e) ∙ by_one (digits_value 10 ds)) in
    indivisible d k.0 ds some normal.digits normal.bare ∙ sym (same_divides right left)

pub none_long : (ds : List ℕ) → (length ds == 0) ≡ is_empty ds
none_long [] = refl
none_long (c ∷ s) = grind (arith, nat_tests)
