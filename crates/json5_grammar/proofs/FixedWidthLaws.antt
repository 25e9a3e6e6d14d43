-- What code computes in a fixed width is the number's value.
use Rattle.std.proofs.Common.{◌≡◌, ℕ, zero, suc, ◌+◌, ◌*◌, ◌<◌, ◌≤◌, min, Bool, true, false, cond, List, [], ◌∷◌, take, refl, ap, sym, ◌∙◌, arith, ◌⊎◌, inl, inr, Option, Some, None}
use Rattle.std.specs.Prelude.{ℤ, pos, negsuc, neg_ℤ, ◌+ℤ◌, ◌-ℤ◌, ◌≤ℤ◌, nat_lt}
use Rattle.std.specs.Char.{digit_value}
use Rattle.std.specs.List.{prefix_len}
use Rattle.std.proofs.lemmas.Bool.Decides.{nat_tests}
use Rattle.std.proofs.lemmas.Int.{ints}
use Rattle.json5_grammar.specs.Language.Numbers.{spelled, signed}
use Rattle.json5_grammar.specs.Model.ReadNumbers.{front_of, in_exponents}
use Rattle.json5_grammar.specs.Model.FixedWidthNumbers.{capped, checked}
use Rattle.json5_grammar.proofs.CommonLemmas.{by_test, lt_from, le_from}

-- in std's words

front_step : (b : Bool) (c : ℕ) (x : List ℕ) (k : ℕ) (f : List ℕ) → f ≡ take k x → cond b (c ∷ f) [] ≡ take (cond b (1 + k) 0) (c ∷ x)
front_step true c x k f e = let i : 1 + k ≡ suc k = omega arith in rw i (ap (λ z. c ∷ z) e)
front_step false c x k f e = refl

pub front_is : (p : ℕ → Bool) (x : List ℕ) → front_of p x ≡ take (prefix_len p x) x
unfolding front_of
front_is p [] = refl
front_is p (c ∷ x) = front_step (p c) c x (prefix_len p x) (front_of p x) (front_is p x)

-- whole numbers

grows : (base n : ℕ) (s : List ℕ) → 0 < base → n ≤ spelled base n s
grows zero n s h = absurd (omega arith)
grows (suc b) n [] h = omega arith
grows (suc b) n (c ∷ s) h = let k = grows (suc b) (n * suc b + digit_value c) s h in grind (arith, nat_tests)

-- below the bound the number, else none
abbrev pub IsChecked : ℕ → ℕ → Option ℕ → Type 0
IsChecked bound n None = bound ≤ n
IsChecked bound n (Some k) = (k ≡ n) × (n < bound)

pub checked_is : (bound base n : ℕ) (s : List ℕ) → 0 < base → n < bound → IsChecked bound (spelled base n s) (checked bound base n s)
checked_is bound base n [] h l = (refl, l)
checked_is bound base n (c ∷ s) h l =
    by_test (IsChecked bound (spelled base (n * base + digit_value c) s)) (nat_lt (n * base + digit_value c) bound) (checked bound base (n * base + digit_value c) s) None
    (λ k. checked_is bound base (n * base + digit_value c) s h (lt_from (n * base + digit_value c) bound k))
    (λ k. let a = le_from (n * base + digit_value c) bound k in let b = grows base (n * base + digit_value c) s h in omega arith)

-- the written exponent

cap_step : (cap n d : ℕ) → min cap (min cap n * 10 + d) ≡ min cap (n * 10 + d)
cap_step cap n d = omega arith

pub capped_is : (cap n : ℕ) (s : List ℕ) → capped cap (min cap n) s ≡ min cap (spelled 10 n s)
capped_is cap n [] = refl
capped_is cap n (c ∷ s) = ap (λ z. capped cap z s) (cap_step cap n (digit_value c)) ∙ capped_is cap (n * 10 + digit_value c) s

out_of_exponents : (z : ℤ) → (pos 32768 ≤ℤ z) ⊎ (z ≤ℤ neg_ℤ (pos 32769)) → in_exponents z ≡ false
out_of_exponents (pos n) (inl h) = let k : 32768 ≤ n = omega (arith, ints) in grind (arith, nat_tests)
out_of_exponents (pos n) (inr h) = absurd (omega (arith, ints))
out_of_exponents (negsuc n) (inl h) = absurd (omega (arith, ints))
out_of_exponents (negsuc n) (inr h) = let k : 32768 ≤ n = omega (arith, ints) in grind (arith, nat_tests)

past : (m : Bool) (n f g cap : ℕ) → cap ≤ n → f + 32768 ≤ cap → g + 32769 ≤ cap → in_exponents (signed m n -ℤ pos f +ℤ pos g) ≡ false
past true n f g cap h k l = out_of_exponents (neg_ℤ (pos n) -ℤ pos f +ℤ pos g) (inr (omega (arith, ints)))
past false n f g cap h k l = out_of_exponents (pos n -ℤ pos f +ℤ pos g) (inl (omega (arith, ints)))

le_or : (a b : ℕ) → (a ≤ b) ⊎ (b ≤ a)
le_or a b = grind arith

-- a capped exponent is in range exactly when the written one is, with f digits after the point and g zeros gone at the end
pub capped_range : (m : Bool) (w f g cap : ℕ) → f + 32768 ≤ cap → g + 32769 ≤ cap → in_exponents (signed m (min cap w) -ℤ pos f +ℤ pos g) ≡ in_exponents (signed m w -ℤ pos f +ℤ pos g)
capped_range m w f g cap k l = by (le_or w cap)
  where
    by : (w ≤ cap) ⊎ (cap ≤ w) → in_exponents (signed m (min cap w) -ℤ pos f +ℤ pos g) ≡ in_exponents (signed m w -ℤ pos f +ℤ pos g)
    by (inl h) = let e : min cap w ≡ w = omega arith in ap (λ z. in_exponents (signed m z -ℤ pos f +ℤ pos g)) e
    by (inr h) = let e : cap ≤ min cap w = omega arith in past m (min cap w) f g cap e k l ∙ sym (past m w f g cap h k l)

-- and where it is in range, it is the written one
pub capped_same : (m : Bool) (w f g cap : ℕ) → f + 32768 ≤ cap → g + 32769 ≤ cap → in_exponents (signed m (min cap w) -ℤ pos f +ℤ pos g) ≡ true → min cap w ≡ w
capped_same m w f g cap k l h = by (le_or w cap)
  where
    by : (w ≤ cap) ⊎ (cap ≤ w) → min cap w ≡ w
    by (inl a) = omega arith
    by (inr a) = let e : cap ≤ min cap w = omega arith in let z = past m (min cap w) f g cap e k l in cc
