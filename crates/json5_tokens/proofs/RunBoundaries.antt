-- The first byte that fails a test is on a character boundary, if every byte of the characters before it passes.
use Rattle.std.proofs.Common.{◌≡◌, ℕ, ◌+◌, ◌/◌, ◌%◌, ◌<◌, ◌≤◌, Bool, true, false, ltb, List, [], ◌∷◌, ◌++◌, length, drop, refl, ap, sym, ◌∙◌, subst, arith}
use Rattle.std.specs.List.{prefix_len}
use Rattle.std.specs.Str.{IsUtf8, IsCharBoundary, chars, encode_utf8_all}
use Rattle.std.specs.Char.{encode_utf8}
use lib.Utf8.{next}
use Rattle.std.proofs.Math.Seq.{drop-append_seam}
use Rattle.std.proofs.lemmas.List.{length-append}
use Rattle.std.proofs.lemmas.Str.{encode_ascii, encodes-chars, encodes-append, chars-encodes}
use Rattle.std.proofs.lemmas.Bool.Decides.{nat_tests}
use Rattle.json5_grammar.specs.Language.Characters.{NotBegun, Each, no_char, char}
use Rattle.json5_grammar.specs.Model.ReadNumbers.{front_of, rest_of}
use Rattle.json5_grammar.proofs.CharacterTests.{by_test, front_each, front_rest, rest_stops}
use Rattle.json5_grammar.specs.Language.Strings.{is_raw, is_quote}
use Rattle.json5_tokens.specs.ByteRuns.{is_in_line, is_line_part, is_no_star}
use Rattle.json5_tokens.specs.Outcome.{bytes_in}
use Rattle.json5_tokens.specs.Scan.{SkipsAll}
use Rattle.json5_tokens.proofs.TextCuts.{Halves, cut_at, parts_scalar}

-- only ASCII characters fail the test
abbrev pub FailsAscii : (ℕ → Bool) → Type 0
FailsAscii p = (c : ℕ) → p c ≡ false → c < 128

passes : (p : ℕ → Bool) → FailsAscii p → (b : ℕ) → 128 ≤ b → p b ≡ true
passes p a b h = decide (p b) refl
  where
    decide : (x : Bool) → p b ≡ x → p b ≡ true
    decide true e = e
    decide false e = let low : b < 128 = a b e in absurd (omega arith)

-- the bytes of a character past ASCII
past_each : (p : ℕ → Bool) → FailsAscii p → (c : ℕ) → 128 ≤ c → Each p (encode_utf8 c)
unfolding encode_utf8
past_each p a c h =
    by_test (Each p) (ltb c 128) (c ∷ []) _ (λ t. char (passes p a c h) no_char)
    (λ f. by_test (Each p) (ltb c 2048) ((192 + c / 64) ∷ next c ∷ []) _ (λ t. char (passes p a (192 + c / 64) (omega arith)) (char (follows c) no_char))
    (λ g. by_test (Each p) (ltb c 65536) ((224 + c / 4096) ∷ next (c / 64) ∷ next c ∷ []) ((240 + c / 262144) ∷ next (c / 4096) ∷ next (c / 64) ∷ next c ∷ [])
    (λ t. char (passes p a (224 + c / 4096) (omega arith)) (char (follows (c / 64)) (char (follows c) no_char)))
    (λ t. char (passes p a (240 + c / 262144) (omega arith)) (char (follows (c / 4096)) (char (follows (c / 64)) (char (follows c) no_char))))))
  where
    follows : (n : ℕ) → p (next n) ≡ true
    follows n = passes p a (128 + n % 64) (omega arith)

each_char : (p : ℕ → Bool) → FailsAscii p → (c : ℕ) → p c ≡ true → Each p (encode_utf8 c)
each_char p a c h = by_test (λ x. Each p (encode_utf8 c)) (ltb c 128) true true
    (λ t. subst (Each p) (sym (encode_ascii c (grind (arith, nat_tests)))) (char h no_char))
    (λ f. past_each p a c (grind (arith, nat_tests)))

prefix_past : {p : ℕ → Bool} {s : List ℕ} (r : List ℕ) → Each p s → prefix_len p (s ++ r) ≡ length s + prefix_len p r
prefix_past r no_char = omega arith
prefix_past {p = p} r (char {c = c} {s = s} h e) = let k = prefix_past r e in rw h (omega (arith, k))

-- the bytes of a character pass p where the character passes q, and else the first one fails it
pub record OfChars (p q : ℕ → Bool) : Type 0 where
  pub inside : (c : ℕ) → q c ≡ true → Each p (encode_utf8 c)
  pub first : (c : ℕ) (s : List ℕ) → q c ≡ false → prefix_len p (encode_utf8 c ++ s) ≡ 0

pub of_ascii : (p : ℕ → Bool) → FailsAscii p → OfChars p p
of_ascii p a = record {
  inside = each_char p a;
  first = λ c s h. ap (λ z. prefix_len p (z ++ s)) (encode_ascii c (a c h)) ∙ rw h refl;
}

-- as many bytes as the characters in front that pass
front_more : (p q : ℕ → Bool) (c : ℕ) (cs : List ℕ) → OfChars p q → prefix_len p (encode_utf8_all cs) ≡ bytes_in (front_of q cs) → q c ≡ true → prefix_len p (encode_utf8 c ++ encode_utf8_all cs) ≡ bytes_in (c ∷ front_of q cs)
front_more p q c cs a e h = prefix_past (encode_utf8_all cs) (a.inside c h) ∙ ap (λ n. length (encode_utf8 c) + n) e ∙ sym (length-append (encode_utf8 c) (encode_utf8_all (front_of q cs)))

front_bytes : (p q : ℕ → Bool) → OfChars p q → (cs : List ℕ) → prefix_len p (encode_utf8_all cs) ≡ bytes_in (front_of q cs)
unfolding front_of
front_bytes p q a [] = refl
front_bytes p q a (c ∷ cs) =
    by_test (λ z. prefix_len p (encode_utf8 c ++ encode_utf8_all cs) ≡ bytes_in z) (q c) (c ∷ front_of q cs) [] (front_more p q c cs a (front_bytes p q a cs)) (a.first c (encode_utf8_all cs))

-- ---- the string cut there

pub stop_halves : (q : ℕ → Bool) (text : List ℕ) → IsUtf8 text → Halves text (front_of q (chars text)) (rest_of q (chars text))
stop_halves q text u = record { is_text = u; split = front_rest q (chars text) }

pub stop_counted : (p q : ℕ → Bool) (text : List ℕ) → OfChars p q → IsUtf8 text → prefix_len p text ≡ bytes_in (front_of q (chars text))
stop_counted p q text a u = ap (prefix_len p) (sym (encodes-chars text u)) ∙ front_bytes p q a (chars text)

pub stop_boundary : (p q : ℕ → Bool) (text : List ℕ) (n : ℕ) → OfChars p q → IsUtf8 text → n ≡ prefix_len p text → IsCharBoundary text n
stop_boundary p q text n a u e = subst (IsCharBoundary text) (sym (e ∙ stop_counted p q text a u)) (cut_at (stop_halves q text u))

rest_at : (text x y : List ℕ) → Halves text x y → chars (drop (bytes_in x) text) ≡ y
rest_at text x y h =
    let whole : text ≡ encode_utf8_all x ++ encode_utf8_all y = sym (encodes-chars text h.is_text) ∙ ap encode_utf8_all h.split ∙ encodes-append x y in
    ap chars (ap (drop (bytes_in x)) whole ∙ drop-append_seam (encode_utf8_all x) (encode_utf8_all y)) ∙ chars-encodes y (parts_scalar h).1

pub stop_rest : (p q : ℕ → Bool) (text : List ℕ) (n : ℕ) → OfChars p q → IsUtf8 text → n ≡ prefix_len p text → chars (drop n text) ≡ rest_of q (chars text)
stop_rest p q text n a u e =
    ap (λ k. chars (drop k text)) (e ∙ stop_counted p q text a u) ∙ rest_at text (front_of q (chars text)) (rest_of q (chars text)) (stop_halves q text u)

pub stop_skips : (p q : ℕ → Bool) (text rest : List ℕ) (n : ℕ) → OfChars p q → IsUtf8 text → n ≡ prefix_len p text → rest ≡ drop n text → SkipsAll q text rest
stop_skips p q text rest n a u e r =
    let k : chars rest ≡ rest_of q (chars text) = ap chars r ∙ stop_rest p q text n a u e in
    record {
      passed = front_of q (chars text);
      split = front_rest q (chars text) ∙ ap (λ z. front_of q (chars text) ++ z) (sym k);
      each = front_each q (chars text);
      stops = subst (NotBegun q) (sym k) (rest_stops q (chars text));
    }

-- ---- a run of a string

raw_fails : (q : ℕ) → q < 128 → FailsAscii (is_raw q)
raw_fails q l c h = grind (arith, nat_tests)

pub quote_ascii : (q : ℕ) → is_quote q ≡ true → q < 128
quote_ascii q h = grind (arith, nat_tests)

pub raw_chars : (q : ℕ) → q < 128 → OfChars (is_raw q) (is_raw q)
raw_chars q l = of_ascii (is_raw q) (raw_fails q l)

-- ---- up to a star

star_fails : FailsAscii is_no_star
star_fails c h = grind (arith, nat_tests)

pub star_chars : OfChars is_no_star is_no_star
star_chars = of_ascii is_no_star star_fails

-- ---- up to a line's end, or a character that begins with the same byte as U+2028 and U+2029

other_byte : (b : ℕ) → 128 ≤ b → (b ≡ 226 → ⊥) → is_in_line b ≡ true
other_byte b l n = grind (arith, nat_tests)

line_each : (c : ℕ) → is_line_part c ≡ true → Each is_in_line (encode_utf8 c)
unfolding encode_utf8
line_each c h =
    by_test (Each is_in_line) (ltb c 128) (c ∷ []) _ (λ t. char (grind (arith, nat_tests)) no_char)
    (λ f. by_test (Each is_in_line) (ltb c 2048) ((192 + c / 64) ∷ next c ∷ []) _
    (λ t. char (other_byte (192 + c / 64) (omega arith) (λ e. grind (arith, nat_tests))) (char (follows c) no_char))
    (λ g. by_test (Each is_in_line) (ltb c 65536) ((224 + c / 4096) ∷ next (c / 64) ∷ next c ∷ []) ((240 + c / 262144) ∷ next (c / 4096) ∷ next (c / 64) ∷ next c ∷ [])
    (λ t. char (other_byte (224 + c / 4096) (omega arith) (λ e. far e)) (char (follows (c / 64)) (char (follows c) no_char)))
    (λ t. char (other_byte (240 + c / 262144) (omega arith) (λ e. omega arith)) (char (follows (c / 4096)) (char (follows (c / 64)) (char (follows c) no_char))))))
  where
    follows : (n : ℕ) → is_in_line (next n) ≡ true
    follows n = other_byte (128 + n % 64) (omega arith) (λ e. omega arith)

    far : 224 + c / 4096 ≡ 226 → ⊥
    far e = let low : 0x2000 ≤ c = omega arith in let high : c ≤ 0x2FFF = omega arith in grind (arith, nat_tests)

line_first : (c : ℕ) (s : List ℕ) → is_line_part c ≡ false → prefix_len is_in_line (encode_utf8 c ++ s) ≡ 0
unfolding encode_utf8
line_first c s h =
    by_test (λ z. prefix_len is_in_line (z ++ s) ≡ 0) (ltb c 128) (c ∷ []) _ (λ t. let k : is_in_line c ≡ false = grind (arith, nat_tests) in rw k refl)
    (λ f. by_test (λ z. prefix_len is_in_line (z ++ s) ≡ 0) (ltb c 2048) ((192 + c / 64) ∷ next c ∷ []) _ (λ t. absurd (grind (arith, nat_tests)))
    (λ g. by_test (λ z. prefix_len is_in_line (z ++ s) ≡ 0) (ltb c 65536) ((224 + c / 4096) ∷ next (c / 64) ∷ next c ∷ []) ((240 + c / 262144) ∷ next (c / 4096) ∷ next (c / 64) ∷ next c ∷ [])
    (λ t. let k : 224 + c / 4096 ≡ 226 = begins (grind (arith, nat_tests)) (grind (arith, nat_tests)) in rw k refl)
    (λ t. absurd (grind (arith, nat_tests)))))
  where
    begins : 0x2000 ≤ c → c ≤ 0x2FFF → 224 + c / 4096 ≡ 226
    begins l m = omega arith

pub line_chars : OfChars is_in_line is_line_part
line_chars = record { inside = line_each; first = line_first }
