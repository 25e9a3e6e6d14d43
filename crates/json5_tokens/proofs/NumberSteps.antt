-- One step of reading a number.
use Rattle.std.proofs.Common.{◌≡◌, ℕ, ◌+◌, ◌*◌, ◌^◌, ◌<◌, ◌≤◌, Bool, true, false, cond, List, [], ◌∷◌, length, refl, ap, sym, subst, ◌∙◌, arith, Option, Some, None}
use Rattle.std.specs.Prelude.{◌==◌, nat_lt, nat_le, pos, neg_ℤ}
use Rattle.std.specs.Char.{digit_value}
use Rattle.std.specs.Str.{IsUtf8, chars}
use Rattle.std.proofs.lemmas.Bool.Decides.{nat_tests}
use Rattle.std.proofs.lemmas.Int.{ints}
use Rattle.std.proofs.lemmas.Str.{encodes-chars}
use Rattle.json5_grammar.specs.declared.error_code.ErrorCode.{ErrorCode}
use Rattle.json5_grammar.specs.declared.error_code.ErrorCode.TheVariants.{EofParsingNumber, ExpectedNumber, OverflowParsingNumber}
use Rattle.json5_grammar.specs.Language.Numbers.{Number, signed, whole, InWhole}
use Rattle.json5_grammar.specs.Model.Reading.{Read, Place, got, bad, here, word_at}
use Rattle.json5_grammar.specs.Model.ReadNumbers.{hex_digits, hex_judged, hexadecimal}
use Rattle.json5_grammar.proofs.CommonLemmas.{hex_value, no_hex}
use Rattle.json5_tokens.specs.declared.refusal.Refusal.{Refusal}
use Rattle.json5_tokens.specs.declared.refusal.Refusal.TheVariants as refusal
use Rattle.json5_tokens.specs.RefusalOutcomes.{Refuses, WantsForDigits}
use Rattle.json5_tokens.specs.Scan.{HasFault}
use lib.Chars.{codes}
use Rattle.json5_tokens.specs.Outcome.{Outcome, bytes_in, outcome, gave, failed}
use Rattle.json5_grammar.proofs.NumberFaultsRefused.{hex_judged_bad}

-- the characters have as many bytes as the string
pub left_is : (s : List ℕ) → IsUtf8 s → bytes_in (chars s) ≡ length s
left_is s u = ap length (encodes-chars s u)

pub failed_here : {A : Type 0} (r : Read A) (e : Option ErrorCode) (s : List ℕ) → IsUtf8 s → r ≡ bad e (here (chars s)) → outcome r ≡ failed e (Some (length s))
failed_here r e s u h = ap outcome h ∙ ap (λ n. failed e (Some n)) (left_is s u)

-- ---- hexadecimal numbers

pub hex_end : (n : ℕ) (xs : List ℕ) → xs ≡ [] → hex_digits n xs ≡ got n xs
unfolding hex_digits
hex_end n xs e = rw e

pub hex_other : (n c : ℕ) (xs ys : List ℕ) → xs ≡ c ∷ ys → 16 ≤ digit_value c → hex_digits n xs ≡ got n xs
unfolding hex_digits
hex_other n c xs ys e h = rw e (rw (no_hex c h))

pub hex_more : (n k c : ℕ) (xs ys : List ℕ) → xs ≡ c ∷ ys → digit_value c < 16 → k ≡ n * 16 + digit_value c → k < 2 ^ 128 → hex_digits n xs ≡ hex_digits k ys
unfolding hex_digits
hex_more n k c xs ys e h i l = let a : nat_lt (n * 16 + digit_value c) (2 ^ 128) ≡ true = grind (arith, nat_tests) in rw (e, i) (rw (hex_value c h, a))

pub hex_past : (n c : ℕ) (xs ys : List ℕ) → xs ≡ c ∷ ys → digit_value c < 16 → 2 ^ 128 ≤ n * 16 + digit_value c → hex_digits n xs ≡ bad (Some OverflowParsingNumber) (here xs)
unfolding hex_digits
hex_past n c xs ys e h l = let a : nat_lt (n * 16 + digit_value c) (2 ^ 128) ≡ false = grind (arith, nat_tests) in rw e (rw (hex_value c h, a))

-- after `0x`

pub hexadecimal_other : (q xs ys : List ℕ) (m : Bool) (c : ℕ) → xs ≡ c ∷ ys → 16 ≤ digit_value c → hexadecimal q m xs ≡ bad (Some ExpectedNumber) (here xs)
hexadecimal_other q xs ys m c e h = rw e (rw (no_hex c h) refl)

hexadecimal_read : (q xs ys : List ℕ) (m : Bool) (c : ℕ) (r : Read ℕ) → xs ≡ c ∷ ys → digit_value c < 16 → hex_digits (digit_value c) ys ≡ r → hexadecimal q m xs ≡ hex_judged q m r
hexadecimal_read q xs ys m c r e h k = let f : hex_digits 0 (c ∷ ys) ≡ r = hex_more 0 (digit_value c) c (c ∷ ys) ys refl h (omega arith) (omega arith) ∙ k in rw e (rw (hex_value c h, f) refl)

pub hexadecimal_past : (q xs ys : List ℕ) (m : Bool) (c : ℕ) (e : Option ErrorCode) (p : Place) → xs ≡ c ∷ ys → digit_value c < 16 → hex_digits (digit_value c) ys ≡ bad e p → hexadecimal q m xs ≡ bad e p
hexadecimal_past q xs ys m c e p f h k = hexadecimal_read q xs ys m c (bad e p) f h k ∙ hex_judged_bad q m e p

judged_large : (q : List ℕ) (m : Bool) (n : ℕ) (r : List ℕ) → n < 2 ^ 128 → (InWhole (signed m n) → ⊥) → hex_judged q m (got n r) ≡ bad None (here q)
judged_large q false n r l h = absurd (h (omega (arith, ints), omega (arith, ints)))
judged_large q true n r l h = by (nat_le n (2 ^ 127)) refl
  where
    by : (b : Bool) → nat_le n (2 ^ 127) ≡ b → cond b (got (whole (neg_ℤ (pos n))) r) (bad None (here q)) ≡ bad None (here q)
    by true e = let k : n ≤ 2 ^ 127 = grind (arith, nat_tests) in absurd (h (omega (arith, ints), omega (arith, ints)))
    by false e = refl

pub hexadecimal_large : (q xs ys : List ℕ) (m : Bool) (c n : ℕ) (r : List ℕ) → xs ≡ c ∷ ys → digit_value c < 16 → hex_digits (digit_value c) ys ≡ got n r → n < 2 ^ 128 → (InWhole (signed m n) → ⊥) → hexadecimal q m xs ≡ bad None (here q)
hexadecimal_large q xs ys m c n r e h k l i = hexadecimal_read q xs ys m c (got n r) e h k ∙ judged_large q m n r l i

judged_whole : (q : List ℕ) (m : Bool) (n : ℕ) (r : List ℕ) → InWhole (signed m n) → hex_judged q m (got n r) ≡ got (whole (signed m n)) r
judged_whole q false n r h = refl
judged_whole q true n r h = let k : n ≤ 2 ^ 127 = let a = h.0 in omega (arith, ints) in let a : nat_le n (2 ^ 127) ≡ true = grind (arith, nat_tests) in rw a refl

pub hexadecimal_whole : (q xs ys : List ℕ) (m : Bool) (c n : ℕ) (r : List ℕ) → xs ≡ c ∷ ys → digit_value c < 16 → hex_digits (digit_value c) ys ≡ got n r → InWhole (signed m n) → hexadecimal q m xs ≡ got (whole (signed m n)) r
hexadecimal_whole q xs ys m c n r e h k i = hexadecimal_read q xs ys m c (got n r) e h k ∙ judged_whole q m n r i

-- ---- words

-- the same with the number of a word
abbrev pub with_number : Number → Read (Unit {0}) → Read Number
with_number n (got a r) = got n r
with_number n (bad e p) = bad e p

with_if : (n : Number) (b : Bool) (x y : Read (Unit {0})) → with_number n (cond b x y) ≡ cond b (with_number n x) (with_number n y)
with_if n true x y = refl
with_if n false x y = refl

word_is : (n : Number) (ks x : List ℕ) → word_at EofParsingNumber ExpectedNumber n ks x ≡ with_number n (word_at EofParsingNumber ExpectedNumber (tt {0}) ks x)
unfolding word_at
word_is n [] x = refl
word_is n (k ∷ ks) [] = refl
word_is n (k ∷ ks) (c ∷ r) =
    ap (λ z. cond (c == k) z (bad (Some ExpectedNumber) (here (c ∷ r)))) (word_is n ks r)
    ∙ sym (with_if n (c == k) (word_at EofParsingNumber ExpectedNumber tt ks r) (bad (Some ExpectedNumber) (here (c ∷ r))))

pub word_read : (n : Number) (ks x r : List ℕ) → word_at EofParsingNumber ExpectedNumber (tt {0}) ks x ≡ got tt r → word_at EofParsingNumber ExpectedNumber n ks x ≡ got n r
word_read n ks x r e = word_is n ks x ∙ ap (with_number n) e

-- what is refused stays so where only what was read changes
pub refuses_still : {A B : Type 0} (f : Outcome A → Outcome B) → ((e : Option ErrorCode) (l : Option ℕ) → f (failed e l) ≡ failed e l) → (e : Refusal) (m : Outcome A) → Refuses e m → Refuses e (f m)
refuses_still f k (refusal.TokenError c left) m h = ap f h ∙ k (Some c) left
refuses_still f k (refusal.InvalidNumber left) m h = ap f h ∙ k None (Some left)
refuses_still f k (refusal.TooLarge left) m h = ap f h ∙ k None (Some left)
refuses_still f k (refusal.UnpairedSurrogate u left) m h = ap f h ∙ k None (Some left)
refuses_still f k refusal.OutOfMemory m h = tt

abbrev outcome_with : Number → Outcome (Unit {0}) → Outcome Number
outcome_with n (gave u r) = gave n r
outcome_with n (failed e l) = failed e l

outcome_is : (n : Number) (y : Read (Unit {0})) → outcome (with_number n y) ≡ outcome_with n (outcome y)
outcome_is n (got u r) = refl
outcome_is n (bad e p) = refl

pub word_refused : (n : Number) (ks x : List ℕ) (e : Refusal) → Refuses e (outcome (word_at EofParsingNumber ExpectedNumber (tt {0}) ks x)) → Refuses e (outcome (word_at EofParsingNumber ExpectedNumber n ks x))
word_refused n ks x e h = subst (Refuses e) (sym (ap outcome (word_is n ks x) ∙ outcome_is n (word_at EofParsingNumber ExpectedNumber tt ks x))) (refuses_still (outcome_with n) (λ c l. refl) e (outcome (word_at EofParsingNumber ExpectedNumber tt ks x)) h)

pub infinity_rest : chars (codes "nfinity") ≡ codes "nfinity"
unfolding chars
infinity_rest = refl

pub nan_rest : chars (codes "aN") ≡ codes "aN"
unfolding chars
nan_rest = refl

-- a fault doesn't say that memory ran out
pub fault_wants : (r : Refusal) (m : Read Number) → HasFault r → WantsForDigits r m
fault_wants (refusal.TokenError c left) m h = tt
fault_wants (refusal.InvalidNumber left) m h = tt
fault_wants (refusal.TooLarge left) m h = tt
fault_wants (refusal.UnpairedSurrogate u left) m h = tt
fault_wants refusal.OutOfMemory m h = absurd h
