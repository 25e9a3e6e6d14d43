-- The input is cut after the ASCII characters in front that pass a test.
use Rattle.std.proofs.Common.{◌≡◌, ℕ, zero, suc, ◌+◌, ◌<◌, ◌≤◌, Bool, true, false, List, [], ◌∷◌, ◌++◌, length, take, drop, refl, ap, sym, ◌∙◌, subst, arith, drop-cons, add-one}
use Rattle.std.specs.Prelude.{◌==◌, slice_index, slice_index_or}
use Rattle.std.specs.List.{prefix_len, take_while}
use Rattle.std.specs.Str.{encode_utf8_all, chars, IsUtf8, IsCharBoundary}
use Rattle.std.proofs.Math.Seq.{take-append_seam, drop-append_seam}
use Rattle.std.proofs.lemmas.List.{append-nil, length-append}
use Rattle.std.proofs.lemmas.List.{length-take}
use Rattle.std.proofs.lemmas.List.Sums.{prefix_len-le-length}
use Rattle.std.proofs.lemmas.Bool.Decides.{nat_tests}
use Rattle.std.proofs.lemmas.Str.{chars-IsAscii, chars-append, chars_from_encodes, encode_ascii, IsUtf8-drop, IsUtf8-from_ascii, IsCharBoundary-after_ascii, IsCharBoundary-at_seam}
use Rattle.json5_grammar.specs.Language.Characters.{is_digit, NotBegun, Each, no_char, char}
use Rattle.json5_grammar.specs.Language.Numbers.{without_front_zeros}
use Rattle.json5_grammar.specs.Model.ReadNumbers.{front_of, rest_of}
use Rattle.json5_grammar.proofs.CharacterTests.{by_test, front_each, front_rest, front_all, rest_each, rest_all, rest_stops}
use Rattle.json5_grammar.proofs.FixedWidthLaws.{front_is}

-- only ASCII characters pass the test
abbrev pub PassesAscii : (ℕ → Bool) → Type 0
PassesAscii p = (c : ℕ) → p c ≡ true → c < 128

pub digit_is_ascii : PassesAscii is_digit
digit_is_ascii c h = grind (arith, nat_tests)

abbrev pub is_zero : ℕ → Bool
is_zero c = c == 48

pub zero_is_ascii : PassesAscii is_zero
zero_is_ascii c h = grind (arith, nat_tests)

pub each_below : {p : ℕ → Bool} {s : List ℕ} → PassesAscii p → Each p s → (i : ℕ) → slice_index s i < 128
each_below a no_char i = omega arith
each_below a (char {c = c} h e) zero = a c h
each_below a (char h e) (suc i) = each_below a e i

pub each_utf8 : {p : ℕ → Bool} {s : List ℕ} → PassesAscii p → Each p s → IsUtf8 s
each_utf8 {s = s} a e = IsUtf8-from_ascii s (λ i. each_below a e i)

-- ---- at the front

tail_utf8 : (c : ℕ) (s : List ℕ) → c < 128 → IsUtf8 (c ∷ s) → IsUtf8 s
tail_utf8 c s h u = IsUtf8-drop (c ∷ s) 1 u (IsCharBoundary-after_ascii (c ∷ s) 0 u (omega arith) h)

pub rest_utf8 : (p : ℕ → Bool) (s : List ℕ) → PassesAscii p → IsUtf8 s → IsUtf8 (rest_of p s)
unfolding rest_of
rest_utf8 p [] a u = u
rest_utf8 p (c ∷ s) a u = by_test (λ z. IsUtf8 z) (p c) (rest_of p s) (c ∷ s) (λ h. rest_utf8 p s a (tail_utf8 c s (a c h) u)) (λ h. u)

-- the same count of what passes
pub counted : (p : ℕ → Bool) (s : List ℕ) (n : ℕ) → n ≡ prefix_len p s → n ≡ length (take_while p s)
counted p s n e = let k = length-take (prefix_len p s) s in let l = prefix_len-le-length p s in omega (arith, e, k, l)

front_count : (p : ℕ → Bool) (s : List ℕ) (k : ℕ) → k ≡ length (take_while p s) → k ≡ length (front_of p s)
front_count p s k e = e ∙ ap length (sym (front_is p s))

pub front_boundary : (p : ℕ → Bool) (s : List ℕ) (k : ℕ) → PassesAscii p → IsUtf8 s → k ≡ length (take_while p s) → IsCharBoundary s k
front_boundary p s k a u e = subst (λ n. IsCharBoundary s n) (sym (front_count p s k e)) (IsCharBoundary-at_seam s (front_of p s) (rest_of p s) (front_rest p s) (rest_utf8 p s a u))

pub front_cut : (p : ℕ → Bool) (s : List ℕ) (k : ℕ) → k ≡ length (take_while p s) → take k s ≡ front_of p s
front_cut p s k e = ap (λ n. take n s) (front_count p s k e) ∙ ap (take (length (front_of p s))) (front_rest p s) ∙ take-append_seam (front_of p s) (rest_of p s)

pub rest_cut : (p : ℕ → Bool) (s : List ℕ) (k : ℕ) → k ≡ length (take_while p s) → drop k s ≡ rest_of p s
rest_cut p s k e = ap (λ n. drop n s) (front_count p s k e) ∙ ap (drop (length (front_of p s))) (front_rest p s) ∙ drop-append_seam (front_of p s) (rest_of p s)

-- ---- the same of characters

pub not_begun : (p : ℕ → Bool) (cs s : List ℕ) → PassesAscii p → encode_utf8_all cs ≡ s → NotBegun p s → NotBegun p cs
not_begun p [] s a e n = tt
not_begun p (c ∷ t) s a e n = decide (p c) refl
  where
    decide : (b : Bool) → p c ≡ b → p c ≡ false
    decide false h = h
    decide true h = subst (NotBegun p) (sym e ∙ ap (λ z. z ++ encode_utf8_all t) (encode_ascii c (a c h))) n

rest_chars_stop : (p : ℕ → Bool) (s : List ℕ) → PassesAscii p → IsUtf8 s → NotBegun p (chars (rest_of p s))
rest_chars_stop p s a u =
    let v = rest_utf8 p s a u in
    subst (NotBegun p) (chars_from_encodes v.0 (rest_of p s) v v.1.1) (not_begun p v.0 (rest_of p s) a v.1.1 (rest_stops p s))

pub front_alone : (p : ℕ → Bool) (s : List ℕ) → PassesAscii p → chars (front_of p s) ≡ front_of p s
front_alone p s a = chars-IsAscii (front_of p s) (λ i. each_below a (front_each p s) i)

pub chars_split : (p : ℕ → Bool) (s : List ℕ) → PassesAscii p → chars s ≡ front_of p s ++ chars (rest_of p s)
chars_split p s a = ap chars (front_rest p s) ∙ chars-append (front_of p s) (rest_of p s) (each_utf8 a (front_each p s)) ∙ ap (λ z. z ++ chars (rest_of p s)) (front_alone p s a)

pub front_chars : (p : ℕ → Bool) (s : List ℕ) → PassesAscii p → IsUtf8 s → front_of p s ≡ front_of p (chars s)
front_chars p s a u = sym (ap (front_of p) (chars_split p s a) ∙ front_all (chars (rest_of p s)) (front_each p s) (rest_chars_stop p s a u))

pub rest_chars : (p : ℕ → Bool) (s : List ℕ) → PassesAscii p → IsUtf8 s → chars (rest_of p s) ≡ rest_of p (chars s)
rest_chars p s a u = sym (ap (rest_of p) (chars_split p s a) ∙ rest_all (chars (rest_of p s)) (front_each p s) (rest_chars_stop p s a u))

pub rest_shorter : (p : ℕ → Bool) (s : List ℕ) → length (rest_of p s) ≤ length s
rest_shorter p s = omega (arith, ap length (front_rest p s), length-append (front_of p s) (rest_of p s))

-- a zero in front
pub zero_past : (s : List ℕ) (i : ℕ) → i < length s → slice_index_or s i 0 ≡ 48 → without_front_zeros (drop i s) ≡ without_front_zeros (drop (i + 1) s)
zero_past s i h e = ap without_front_zeros (drop-cons s i 0 h ∙ ap (λ k. slice_index_or s i 0 ∷ drop k s) (sym (add-one i))) ∙ rw e refl

-- ---- whether anything follows

pub something_follows : (p : ℕ → Bool) (s : List ℕ) (b : Bool) → b ≡ (length (rest_of p s) == 0) → b ≡ false → Each p s → ⊥
something_follows p s b e h k = let r = ap length (rest_each k) in grind (arith, nat_tests)

empty_by_length : (s : List ℕ) → (length s == 0) ≡ true → s ≡ []
empty_by_length [] h = refl
empty_by_length (c ∷ s) h = absurd (grind (arith, nat_tests))

pub nothing_follows : (p : ℕ → Bool) (s : List ℕ) (b : Bool) → b ≡ (length (rest_of p s) == 0) → b ≡ true → front_of p s ≡ s
nothing_follows p s b e h =
    let r = empty_by_length (rest_of p s) (sym e ∙ h) in
    sym (front_rest p s ∙ ap (λ z. front_of p s ++ z) r ∙ append-nil (front_of p s))
