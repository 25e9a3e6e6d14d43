-- Counting few digits one by one gives their value.
use Rattle.std.proofs.Common.{◌≡◌, ℕ, zero, suc, ◌+◌, ◌-◌, ◌*◌, ◌<◌, ◌≤◌, Bool, true, false, not, cond, ◌||◌, List, [], ◌∷◌, length, drop, refl, ap, sym, ◌∙◌, arith}
use Rattle.std.specs.Prelude.{◌==◌, slice_index}
use Rattle.std.specs.List.{prefix_len}
use Rattle.std.specs.Char.{digit_value, is_ascii_digit}
use Rattle.std.proofs.lemmas.Bool.Decides.{nat_tests}
use Rattle.json5_grammar.specs.Language.Characters.{is_digit, NotBegun}
use Rattle.json5_grammar.specs.Language.Numbers.{spelled, is_empty}
use Rattle.json5_grammar.specs.Model.ReadNumbers.{front_of, is_integer}
use Rattle.json5_grammar.proofs.CharacterTests.{by_test}
use Rattle.json5_tokens.specs.declared.numbers.short.FewDigits.{FewDigits}
use Rattle.json5_tokens.specs.ByteRuns.{lengthens_digits, SpellsFront, IsUnpadded, IsFewDigits}

or-true : (b : Bool) → (b || true) ≡ true
or-true true = refl
or-true false = refl

-- a digit at the index i
pub digit_here : (d : List ℕ) (i : ℕ) → i < length d → is_digit (slice_index d i) ≡ true → (prefix_len is_digit (drop i d) ≡ 1 + prefix_len is_digit (drop (i + 1) d)) × (front_of is_digit (drop i d) ≡ slice_index d i ∷ front_of is_digit (drop (i + 1) d))
unfolding front_of
digit_here [] i l h = absurd (omega arith)
digit_here (c ∷ d) zero l h = (rw h refl, rw h refl)
digit_here (c ∷ d) (suc i) l h = let e : suc i + 1 ≡ suc (i + 1) = omega arith in rw e (digit_here d i (omega arith) h)

-- what std calls a digit is one
pub std_digit : (c : ℕ) → is_ascii_digit c ≡ true → is_digit c ≡ true
std_digit c h = h

pub digit_high : (c : ℕ) → is_digit c ≡ true → c ≤ 57
digit_high c h = grind (arith, nat_tests)

value_digit : (c : ℕ) → is_digit c ≡ true → digit_value c ≡ c - 48
value_digit c h = grind (arith, nat_tests)

pub one_digit : (d : List ℕ) (i value digit : ℕ) → i < length d → is_digit (slice_index d i) ≡ true → digit ≡ slice_index d i - 48
    → spelled 10 value (front_of is_digit (drop i d)) ≡ spelled 10 (value * 10 + digit) (front_of is_digit (drop (i + 1) d))
one_digit d i value digit l h e =
    ap (spelled 10 value) (digit_here d i l h).1 ∙ ap (λ n. spelled 10 (value * 10 + n) (front_of is_digit (drop (i + 1) d))) (value_digit (slice_index d i) h ∙ sym e)

digits_end : (x : List ℕ) → NotBegun lengthens_digits x → (prefix_len is_digit x ≡ 0) × (front_of is_digit x ≡ [])
unfolding front_of
digits_end [] n = (refl, refl)
digits_end (c ∷ x) n = let k : is_digit c ≡ false = no_digit c n in (rw k refl, rw k refl)
  where
    no_digit : (c : ℕ) → lengthens_digits c ≡ false → is_digit c ≡ false
    no_digit c h = grind (arith, nat_tests)

-- the front is as long as it is counted
front_counted : (x : List ℕ) → length (front_of is_digit x) ≡ prefix_len is_digit x
unfolding front_of
front_counted [] = refl
front_counted (c ∷ x) = by_test (λ z. length z ≡ cond (is_digit c) (1 + prefix_len is_digit x) 0) (is_digit c) (c ∷ front_of is_digit x) []
    (λ h. rw h (let k = front_counted x in omega (arith, k))) (λ h. rw h refl)

whole_front : (x : List ℕ) → 0 < prefix_len is_digit x → (1 < prefix_len is_digit x → slice_index x 0 ≡ 48 → ⊥) → is_integer (front_of is_digit x) ≡ true
unfolding front_of
whole_front [] p n = absurd (omega arith)
whole_front (c ∷ x) p n = decide (is_digit c) refl
  where
    decide : (b : Bool) → is_digit c ≡ b → is_integer (cond (is_digit c) (c ∷ front_of is_digit x) []) ≡ true
    decide false h = let none : prefix_len is_digit (c ∷ x) ≡ 0 = rw h refl in absurd (omega arith)
    decide true h = rw h (last (front_of is_digit x) (front_counted x))
      where
        last : (y : List ℕ) → length y ≡ prefix_len is_digit x → (not (c == 48) || is_empty y) ≡ true
        last [] e = or-true (not (c == 48))
        last (d ∷ y) e =
            let more : prefix_len is_digit (c ∷ x) ≡ 1 + prefix_len is_digit x = rw h refl in
            let far : c ≡ 48 → ⊥ = n (omega arith) in
            let no : (c == 48) ≡ false = grind (arith, nat_tests) in rw no refl

pub few_found : (bytes : List ℕ) (found : FewDigits) → SpellsFront bytes found → (found.len ≡ 0 → ⊥) → NotBegun lengthens_digits (drop found.len bytes) → IsUnpadded bytes found.len → IsFewDigits bytes found
few_found bytes found s some stops unpadded =
    let k = digits_end (drop found.len bytes) stops in
    let count : prefix_len is_digit bytes ≡ found.len = omega (arith, s.counted, k.0) in
    record {
      counted = sym count;
      value = sym (s.value ∙ ap (spelled 10 found.value) k.1);
      integer = whole_front bytes (omega arith) (λ l z. unpadded (omega arith) z);
      stops = stops;
      small = s.small;
    }
