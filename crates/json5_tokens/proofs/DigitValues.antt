-- The value of digits, byte by byte.
use Rattle.std.proofs.Common.{◌≡◌, ℕ, ◌+◌, ◌-◌, ◌*◌, ◌^◌, ◌<◌, ◌≤◌, min, true, List, [], ◌∷◌, length, drop, refl, ap, sym, ◌∙◌, subst, arith, length-drop, drop-cons, add-one}
use Rattle.std.specs.Prelude.{nat_lt, slice_index_or}
use Rattle.std.specs.Char.{digit_value}
use Rattle.std.proofs.lemmas.Bool.Decides.{nat_tests}
use Rattle.json5_grammar.specs.Language.Characters.{is_digit, Each, char}
use Rattle.json5_grammar.specs.Language.Numbers.{spelled}
use Rattle.json5_grammar.specs.Model.FixedWidthNumbers.{capped, checked}
use Rattle.json5_grammar.specs.Model.ReadNumbers.{front_of}
use Rattle.std.proofs.Math.Nat.{min-eq_right}
use Rattle.json5_grammar.proofs.FixedWidthLaws.{capped_is}
use Rattle.std.proofs.lemmas.List.{nil_from_length}

head_digit : (c : ℕ) (s : List ℕ) → Each is_digit (c ∷ s) → is_digit c ≡ true
head_digit c s (char h e) = h

tail_digits : (c : ℕ) (s : List ℕ) → Each is_digit (c ∷ s) → Each is_digit s
tail_digits c s (char h e) = e

digit_low : (c : ℕ) → is_digit c ≡ true → 48 ≤ c
digit_low c h = grind (arith, nat_tests)

value_of_digit : (c : ℕ) → is_digit c ≡ true → digit_value c ≡ c - 48
value_of_digit c h = grind (arith, nat_tests)

-- the digit at i and those after it
at_digit : (s : List ℕ) (i : ℕ) → i < length s → drop i s ≡ slice_index_or s i 0 ∷ drop (i + 1) s
at_digit s i h = drop-cons s i 0 h ∙ ap (λ k. slice_index_or s i 0 ∷ drop k s) (sym (add-one i))

pub digit_at : (s : List ℕ) (i : ℕ) → Each is_digit (drop i s) → i < length s → 48 ≤ slice_index_or s i 0
digit_at s i e h = digit_low (slice_index_or s i 0) (head_digit (slice_index_or s i 0) (drop (i + 1) s) (subst (Each is_digit) (at_digit s i h) e))

pub digits_past : (s : List ℕ) (i : ℕ) → Each is_digit (drop i s) → i < length s → Each is_digit (drop (i + 1) s)
digits_past s i e h = tail_digits (slice_index_or s i 0) (drop (i + 1) s) (subst (Each is_digit) (at_digit s i h) e)

checked_next : (n k c : ℕ) (s : List ℕ) → is_digit c ≡ true → k ≡ n * 10 + (c - 48) → k < 2 ^ 128 → checked (2 ^ 128) 10 n (c ∷ s) ≡ checked (2 ^ 128) 10 k s
checked_next n k c s d e l =
    let f : n * 10 + digit_value c ≡ k = ap (λ z. n * 10 + z) (value_of_digit c d) ∙ sym e in
    let t : nat_lt k (2 ^ 128) ≡ true = grind (arith, nat_tests) in
    rw f (rw t refl)

pub checked_past : (n k : ℕ) (s : List ℕ) (i : ℕ) → Each is_digit (drop i s) → i < length s → k ≡ n * 10 + (slice_index_or s i 0 - 48) → k < 2 ^ 128 → checked (2 ^ 128) 10 k (drop (i + 1) s) ≡ checked (2 ^ 128) 10 n (drop i s)
checked_past n k s i e h f l =
    sym (ap (checked (2 ^ 128) 10 n) (at_digit s i h) ∙ checked_next n k (slice_index_or s i 0) (drop (i + 1) s) (head_digit (slice_index_or s i 0) (drop (i + 1) s) (subst (Each is_digit) (at_digit s i h) e)) f l)

pub capped_past : (n k : ℕ) (s : List ℕ) (i : ℕ) → Each is_digit (drop i s) → i < length s → k ≡ min (2 ^ 100) (n * 10 + (slice_index_or s i 0 - 48)) → capped (2 ^ 100) k (drop (i + 1) s) ≡ capped (2 ^ 100) n (drop i s)
capped_past n k s i e h f =
    let d = value_of_digit (slice_index_or s i 0) (head_digit (slice_index_or s i 0) (drop (i + 1) s) (subst (Each is_digit) (at_digit s i h) e)) in
    ap (λ z. capped (2 ^ 100) z (drop (i + 1) s)) (f ∙ ap (λ z. min (2 ^ 100) (n * 10 + z)) (sym d)) ∙ sym (ap (capped (2 ^ 100) n) (at_digit s i h))

none_left : (s : List ℕ) (i : ℕ) → length s ≤ i → drop i s ≡ []
none_left s i h = nil_from_length (drop i s) (omega (arith, length-drop i s))

pub capped_done : (v i : ℕ) (s ds : List ℕ) → capped (2 ^ 100) v (drop i s) ≡ capped (2 ^ 100) 0 ds → length s ≤ i → v ≡ min (2 ^ 100) (spelled 10 0 ds)
capped_done v i s ds e h = sym (ap (capped (2 ^ 100) v) (none_left s i h)) ∙ e ∙ capped_is (2 ^ 100) 0 ds

-- the digits in front of digits are all of them
all_front : (s : List ℕ) → Each is_digit s → front_of is_digit s ≡ s
unfolding front_of
all_front [] e = refl
all_front (c ∷ s) (char h e) = rw (h, all_front s e) refl

pub few_value : (v i : ℕ) (s : List ℕ) → Each is_digit s → i ≡ length s → v < 10 ^ 19 → spelled 10 0 (front_of is_digit s) ≡ spelled 10 v (front_of is_digit (drop i s)) → v ≡ min (2 ^ 100) (spelled 10 0 s)
unfolding front_of
few_value v i s d k small e =
    let n : drop i s ≡ [] = none_left s i (omega (arith, k)) in
    let t : spelled 10 0 s ≡ v = sym (ap (spelled 10 0) (all_front s d)) ∙ e ∙ ap (λ z. spelled 10 v (front_of is_digit z)) n in
    let below : v ≤ 2 ^ 100 = omega (arith, small) in
    sym (ap (min (2 ^ 100)) t ∙ min-eq_right below)
