-- The character in front of a text, by the first byte.
use Rattle.std.proofs.Common.{◌≡◌, ◌≢◌, ◌<◌, ℕ, Bool, true, false, List, [], ◌∷◌, ◌++◌, length, drop, refl, sym, ap, ◌∙◌, subst, arith}
use Rattle.std.specs.Prelude.{◌==◌, slice_index}
use Rattle.std.specs.Str.{chars, encode_utf8_all, IsUtf8}
use Rattle.std.proofs.lemmas.Str.{encode_ascii, encodes-chars}
use Rattle.std.proofs.lemmas.Bool.Decides.{nat_tests}
use Rattle.json5_grammar.specs.Language.Characters.{NotBegun}
use Rattle.json5_types.proofs.AsciiRuns.{PassesAscii, not_begun}
use Rattle.json5_tokens.specs.Scan.{StartsWith}
use Rattle.json5_tokens.proofs.TextCuts.{begins_char, no_chars}
use Rattle.json5_lexemes.specs.SameLexemes.{is_word_part}
use Rattle.json5_lexemes.specs.PlainSteps.{BeginsWith}
use Rattle.json5_grammar.proofs.CommonLemmas.{not_eq, neq_from}

-- a character of ASCII
pub ascii_starts : (text rest : List ℕ) → IsUtf8 text → 0 < length text → slice_index text 0 < 128 → rest ≡ drop 1 text → StartsWith text (slice_index text 0) rest
ascii_starts [] rest u s a e = absurd (omega arith)
ascii_starts (b ∷ t) rest u s a e = begins_char (b ∷ t) rest b u (ap (λ z. b ∷ z) (sym e) ∙ sym (ap (λ z. z ++ rest) (encode_ascii b a)))

abbrev pub is_that : ℕ → ℕ → Bool
is_that c d = d == c

that_is_ascii : (c : ℕ) → c < 128 → PassesAscii (is_that c)
that_is_ascii c h d e = grind (arith, nat_tests)

-- a byte of ASCII that isn't in front is no first character
pub not_in_front : (text : List ℕ) (c : ℕ) → IsUtf8 text → c < 128 → (BeginsWith c text → ⊥) → NotBegun (is_that c) (chars text)
not_in_front text c u h n = not_begun (is_that c) (chars text) text (that_is_ascii c h) (encodes-chars text u) (by_front text n)
  where
    by_front : (x : List ℕ) → (BeginsWith c x → ⊥) → NotBegun (is_that c) x
    by_front [] n = tt
    by_front (b ∷ x) n = not_eq b c (λ e. n (omega arith, e))

-- whatever character is in front
pub starts : (text : List ℕ) → IsUtf8 text → 0 < length text → (c : ℕ) × ((after : List ℕ) × StartsWith text c after)
starts text u s = by u.0 u.1.1
  where
    by : (cs : List ℕ) → encode_utf8_all cs ≡ text → (c : ℕ) × ((after : List ℕ) × StartsWith text c after)
    by [] e = let k = ap length e in absurd (omega arith)
    by (c ∷ cs) e = (c, (encode_utf8_all cs, begins_char text (encode_utf8_all cs) c u (sym e)))

-- a sign or a blank of ASCII ends a word
pub word_ended : (text bytes : List ℕ) (b : ℕ) → IsUtf8 text → bytes ≡ text → false ≡ (length bytes == 0) → slice_index bytes 0 ≡ b → b < 128 → is_word_part b ≡ false → NotBegun is_word_part (chars text)
word_ended text bytes b u same s e small h =
    let some = subst (λ z. 0 < length z) same (filled (length bytes) s) in
    let is = ap (λ z. slice_index z 0) (sym same) ∙ e in
    let front = ascii_starts text (drop 1 text) u some (subst (λ z. z < 128) (sym is) small) refl in
    subst (NotBegun is_word_part) (sym front.chars) (subst (λ z. is_word_part z ≡ false) (sym is) h)
  where
    filled : (n : ℕ) → false ≡ (n == 0) → 0 < n
    filled n h = let k = neq_from n 0 (sym h) in omega (arith, k)

-- by a test
pub same_by : (n m : ℕ) → (n == m) ≡ true → n ≡ m
same_by n m h = grind (arith, nat_tests)

pub end_ended : (text bytes : List ℕ) → bytes ≡ text → true ≡ (length bytes == 0) → NotBegun is_word_part (chars text)
end_ended text bytes same h = subst (NotBegun is_word_part) (sym (no_chars text (ap length (sym same) ∙ same_by (length bytes) 0 (sym h)))) tt

-- ---- the first byte

pub first_is : (text bytes : List ℕ) (b : ℕ) → bytes ≡ text → slice_index bytes 0 ≡ b → slice_index text 0 ≡ b
first_is text bytes b same e = ap (λ z. slice_index z 0) (sym same) ∙ e

pub first_char : (text bytes : List ℕ) (b : ℕ) → IsUtf8 text → 0 < length text → bytes ≡ text → slice_index bytes 0 ≡ b → b < 128 → chars text ≡ b ∷ chars (drop 1 text)
first_char text bytes b u s same e small =
    let is = first_is text bytes b same e in
    (ascii_starts text (drop 1 text) u s (subst (λ z. z < 128) (sym is) small) refl).chars ∙ ap (λ z. z ∷ chars (drop 1 text)) is

-- a test that only ASCII passes fails on the first byte, and so on the first character
pub other_by : (p : ℕ → Bool) (text bytes after : List ℕ) (c : ℕ) → PassesAscii p → IsUtf8 text → bytes ≡ text → p (slice_index bytes 0) ≡ false → chars text ≡ c ∷ chars after → p c ≡ false
other_by p text bytes after c a u same h f =
    subst (NotBegun p) f (not_begun p (chars text) text a (encodes-chars text u) (by_front text (subst (λ z. p (slice_index z 0) ≡ false) same h)))
  where
    by_front : (x : List ℕ) → p (slice_index x 0) ≡ false → NotBegun p x
    by_front [] h = tt
    by_front (b ∷ x) h = h

-- the same of one character
pub other_than : (d : ℕ) (text bytes after : List ℕ) (c : ℕ) → d < 128 → IsUtf8 text → bytes ≡ text → slice_index bytes 0 ≢ d → chars text ≡ c ∷ chars after → (c == d) ≡ false
other_than d text bytes after c s u same n f = other_by (is_that d) text bytes after c (that_is_ascii d s) u same (not_eq (slice_index bytes 0) d n) f
