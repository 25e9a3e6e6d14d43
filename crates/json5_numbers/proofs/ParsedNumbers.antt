-- The text that is scanned as a number is one, and a text that isn't is none.
use Rattle.std.proofs.Common.{◌≡◌, ℕ, ◌-◌, ◌^◌, ◌<◌, ◌≤◌, Bool, true, false, cond, List, [], ◌∷◌, ◌++◌, length, refl, ap, sym, subst, ◌∙◌, arith, append-nil, Option, Some, lit<, lit≤, true≢false}
use Rattle.std.specs.Bool.{Decides}
use Rattle.std.specs.Prelude.{ℤ, pos, ◌+ℤ◌, slice_get, is_some, not, Err}
use Rattle.std.proofs.lemmas.Int.{ints}
use Rattle.std.proofs.lemmas.Fmt.{decimal_is_IsNumeral_wide, length-decimal-le_wide}
use native.Mathlib.Nat.{lt_of_lt_of_le, le_trans}
use Rattle.std.specs.Fmt.{decimal as decimal_digits}
use Rattle.json5_grammar.specs.Language.Characters.{is_digit, Each, NotBegun}
use Rattle.json5_grammar.specs.Language.Numbers.{Num, Number, lengthens, without_front_zeros, without_zeros, normal_exponent, is_empty, InExponents}
use Rattle.json5_grammar.proofs.NumberFaultsRefused.{one_number}
use Rattle.json5_grammar.proofs.DecimalsWritten.{length-front}
use Rattle.json5_types.specs.declared.error.Error.{Error}
use Rattle.json5_numbers.proofs.SpelledNumbers.{each_digit}
use Rattle.json5_numbers.specs.NumberTexts.{IsNumber}
use Rattle.json5_tokens.specs.Cursor.{Cursor}
use Rattle.json5_tokens.specs.TokenCalls.{PassesNumber}

abbrev pub NoNumber : List ℕ → Type 0
NoNumber text = (n : Number) → Num text n → ⊥

pub all_taken : (text s rest : List ℕ) (n : Number) → text ≡ s ++ rest → rest ≡ [] → Num s n → Num text n
all_taken text s rest n e k h = subst (λ t. Num t n) (sym (e ∙ ap (λ r. s ++ r) k ∙ append-nil s)) h

pub more_left : (text s rest : List ℕ) (n : Number) (c : ℕ) (r : List ℕ) → text ≡ s ++ rest → rest ≡ c ∷ r → Num s n → NotBegun (lengthens s) rest → NoNumber text
more_left text s rest n c r e k h stops m i =
    let o = one_number h i stops tt (sym e ∙ sym (append-nil text)) in
    let q : c ∷ r ≡ [] = sym k ∙ o.2 in
    absurd (cc)

pub first_of_rest : (xs : List ℕ) (v : ℕ) → slice_get xs 0 ≡ Some v → (c : ℕ) × (r : List ℕ) × (xs ≡ c ∷ r)
first_of_rest [] v h = absurd (cc)
first_of_rest (c ∷ r) v h = (c, r, refl)

-- a number was passed over, and this is the first character of what is left, if there is one
pub whole_exactly : (text s rest : List ℕ) (n : Number) (first : Option ℕ) (r : Bool) → text ≡ s ++ rest → Num s n → NotBegun (lengthens s) rest → first ≡ slice_get rest 0 → is_some first ≡ not r
    → Decides r (IsNumber text)
whole_exactly text s [] n first true e h stops f k = (λ _. (n, all_taken text s [] n e refl h), λ _. refl)
whole_exactly text s [] n first false e h stops f k = absurd (true≢false (sym k ∙ ap is_some f))
whole_exactly text s (c ∷ r) n first true e h stops f k = absurd (true≢false (sym (ap is_some f) ∙ k))
whole_exactly text s (c ∷ r) n first false e h stops f k = (λ t. absurd (true≢false (sym t)), λ (m, i). absurd (more_left text s (c ∷ r) n c r e refl h stops m i))

-- a number is always passed over
pub refused_none : (s new : Cursor) (e : Error) → PassesNumber s new (Err e) → NoNumber s.unread
refused_none s new e k n h = true≢false (sym (k.memory s.unread [] n (sym (append-nil s.unread)) h tt))

-- ---- exponents of few digits

abbrev if_empty : Bool → ℕ → ℤ
if_empty b k = cond b (pos 0) (pos 0 +ℤ pos k)

few_if : (b : Bool) (k : ℕ) → k ≤ 100 → InExponents (if_empty b k)
few_if true k h = (omega (arith, ints), omega (arith, ints))
few_if false k h = (omega (arith, ints), omega (arith, ints))

pub few_exponent : (s : List ℕ) → length s ≤ 100 → InExponents (normal_exponent s (pos 0))
few_exponent s h = few_if (is_empty (without_zeros s)) (length (without_front_zeros s) - length (without_zeros s)) (omega (arith, length-front s))

pub whole_digits : (n : ℕ) → n < 2 ^ 128 → Each is_digit (decimal_digits n) × InExponents (normal_exponent (decimal_digits n) (pos 0))
whole_digits n h =
    let few : n < 10 ^ 64 = lt_of_lt_of_le h (lit≤ tt) in
    let short : n < 10 ^ 39 = lt_of_lt_of_le h (lit≤ tt) in
    let d = decimal_is_IsNumeral_wide n few in
    (each_digit (decimal_digits n) d.0.1, few_exponent (decimal_digits n) (le_trans (length-decimal-le_wide 39 n (lit< tt) short few) (lit≤ tt)))
