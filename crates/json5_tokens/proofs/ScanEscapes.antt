-- Steps of reading escapes.
use Rattle.std.proofs.Common.{◌≡◌, ℕ, zero, suc, ◌+◌, ◌-◌, ◌*◌, ◌^◌, ◌<◌, ◌≤◌, Bool, true, false, ltb, cond, List, [], ◌∷◌, ◌++◌, length, drop, refl, ap, sym, ◌∙◌, subst, arith, Option, Some, None}
use Rattle.std.specs.Prelude.{◌==◌, ◌&&◌, slice_index}
use Rattle.std.specs.List.{slice_get}
use Rattle.std.specs.Char.{IsScalar, digit_value}
use Rattle.std.specs.Str.{IsUtf8, IsCharBoundary, chars, encode_utf8_all}
use Rattle.std.proofs.lemmas.Str.{encode_ascii, encodes-chars, chars-encodes}
use Rattle.std.proofs.lemmas.Bool.Decides.{nat_tests}
use Rattle.json5_grammar.specs.Language.Characters.{is_terminator, is_digit}
use Rattle.json5_grammar.specs.declared.error_code.ErrorCode.{ErrorCode}
use Rattle.json5_grammar.specs.declared.error_code.ErrorCode.TheVariants.{EofParsingEscapeSequence, InvalidEscapeSequence}
use Rattle.json5_grammar.specs.Model.Reading.{Read, Place, got, bad, here, inner, and_then, word_at}
use Rattle.json5_grammar.specs.Language.Strings.{short_escape, is_high, is_low, pair_value}
use Rattle.json5_grammar.specs.Faults.Tokens.{is_surrogate}
use Rattle.json5_grammar.specs.Model.ReadTexts.{hex, paired, second_u, second, first, unicode_at, after_nul, not_short, escape_at}
use Rattle.json5_grammar.proofs.CommonLemmas.{hex_value, no_hex}
use Rattle.json5_tokens.specs.declared.refusal.Refusal.{Refusal}
use Rattle.json5_tokens.specs.declared.refusal.Refusal.TheVariants as refusal
use Rattle.json5_tokens.specs.Outcome.{failed, outcome, left_at}
use Rattle.json5_tokens.specs.RefusalOutcomes.{Refuses}
use Rattle.json5_tokens.specs.Scan.{StartsWith}
use Rattle.json5_tokens.proofs.TextCuts.{first_cut, begins_ascii, no_chars}
use Rattle.json5_tokens.proofs.ScanFaults.{same_failed, gave_failed}

-- ---- refusals

failed_as : (A B : Type 0) (m : Read A) (n : Read B) (e : Option ErrorCode) (l : Option ℕ) → ((f : Option ErrorCode) (p : Place) → m ≡ bad f p → n ≡ bad f p) → outcome m ≡ failed e l → outcome n ≡ failed e l
failed_as A B (got a r) n e l k h = absurd (gave_failed A a r e l h)
failed_as A B (bad f p) n e l k h =
    let s = same_failed A f e (left_at p) l h in
    let j : outcome n ≡ failed f (left_at p) = ap outcome (k f p refl) in
    j ∙ ap (λ z. failed z (left_at p)) s.0 ∙ ap (failed e) s.1

-- what refuses one reading refuses another that has the same fault
pub refuses_as : {A B : Type 0} (r : Refusal) (m : Read A) (n : Read B) → ((f : Option ErrorCode) (p : Place) → m ≡ bad f p → n ≡ bad f p) → Refuses r (outcome m) → Refuses r (outcome n)
refuses_as {A = A} {B = B} (refusal.TokenError c left) m n k h = failed_as A B m n (Some c) left k h
refuses_as {A = A} {B = B} (refusal.InvalidNumber left) m n k h = failed_as A B m n None (Some left) k h
refuses_as {A = A} {B = B} (refusal.TooLarge left) m n k h = failed_as A B m n None (Some left) k h
refuses_as {A = A} {B = B} (refusal.UnpairedSurrogate u left) m n k h = failed_as A B m n None (Some left) k h
refuses_as refusal.OutOfMemory m n k h = tt

pub then_refuses : {A B : Type 0} (r : Refusal) (m : Read A) (n : Read B) (f : A → List ℕ → Read B) → n ≡ and_then m f → Refuses r (outcome m) → Refuses r (outcome n)
then_refuses r m n f e h = refuses_as r m n (λ c p g. e ∙ ap (λ z. and_then z f) g) h

-- a code where so many bytes are left
pub refused_here : {A : Type 0} (m : Read A) (code : ErrorCode) (bytes : List ℕ) → IsUtf8 bytes → m ≡ bad (Some code) (here (chars bytes)) → outcome m ≡ failed (Some code) (Some (length bytes))
refused_here m code bytes u e = ap outcome e ∙ ap (λ z. failed (Some code) (Some (length z))) (encodes-chars bytes u)

-- ---- hexadecimal digits

pub hex_done : (w n : ℕ) (b xs : List ℕ) → w ≡ 0 → hex w n b xs ≡ got n xs
unfolding hex
hex_done w n b xs h = rw h refl

hex_ends : (w n : ℕ) (b xs : List ℕ) → 0 < w → xs ≡ [] → hex w n b xs ≡ bad (Some EofParsingEscapeSequence) inner
unfolding hex
hex_ends zero n b xs l e = absurd (omega arith)
hex_ends (suc k) n b xs l e = rw e refl

hex_wrong : (w n c : ℕ) (b xs ys : List ℕ) → 0 < w → xs ≡ c ∷ ys → 16 ≤ digit_value c → hex w n b xs ≡ bad (Some InvalidEscapeSequence) (here b)
unfolding hex
hex_wrong zero n c b xs ys l e h = absurd (omega arith)
hex_wrong (suc k) n c b xs ys l e h = rw e (rw (no_hex c h) refl)

pub hex_more : (w n c : ℕ) (b xs ys : List ℕ) → 0 < w → xs ≡ c ∷ ys → digit_value c < 16 → hex w n b xs ≡ hex (w - 1) (n * 16 + digit_value c) b ys
unfolding hex
hex_more zero n c b xs ys l e h = absurd (omega arith)
hex_more (suc k) n c b xs ys l e h = let d : suc k - 1 ≡ k = omega arith in rw (e, d) (rw (hex_value c h) refl)

pub digit_ascii : (d : ℕ) → digit_value d < 16 → d < 128
digit_ascii d h = grind (arith, nat_tests)

-- a byte in front
byte_first : (s : List ℕ) (d : ℕ) → Some d ≡ slice_get s 0 → (0 < length s) × (slice_index s 0 ≡ d)
byte_first [] d e = absurd (cc)
byte_first (x ∷ s) d e = (omega arith, cc)

pub no_byte : (s : List ℕ) → None ≡ slice_get s 0 → chars s ≡ []
no_byte [] e = no_chars [] refl
no_byte (x ∷ s) e = absurd (cc)

pub hex_no_byte : (w n : ℕ) (b s : List ℕ) → 0 < w → None ≡ slice_get s 0 → hex w n b (chars s) ≡ bad (Some EofParsingEscapeSequence) inner
hex_no_byte w n b s l e = hex_ends w n b (chars s) l (no_byte s e)

-- a digit's byte is its character
pub digit_cut : (s : List ℕ) (d : ℕ) → IsUtf8 s → Some d ≡ slice_get s 0 → digit_value d < 16 → IsCharBoundary s 1
digit_cut s d u e h = let f = byte_first s d e in first_cut s u f.0 (rw f.1 (digit_ascii d h))

pub digit_begins : (s t : List ℕ) (d : ℕ) → IsUtf8 s → Some d ≡ slice_get s 0 → digit_value d < 16 → t ≡ drop 1 s → StartsWith s d t
digit_begins s t d u e h f = let k = byte_first s d e in subst (λ x. StartsWith s x t) k.1 (begins_ascii s t u k.0 (rw k.1 (digit_ascii d h)) f)

first_byte : (s r : List ℕ) (c : ℕ) → IsUtf8 s → chars s ≡ c ∷ r → c < 128 → slice_index s 0 ≡ c
first_byte s r c u e h = ap (λ z. slice_index z 0) (sym (encodes-chars s u) ∙ ap encode_utf8_all e ∙ ap (λ z. z ++ encode_utf8_all r) (encode_ascii c h))

no_digit : (s r : List ℕ) (c d : ℕ) → IsUtf8 s → chars s ≡ c ∷ r → slice_index s 0 ≡ d → 16 ≤ digit_value d → 16 ≤ digit_value c
no_digit s r c d u e f h = by_cases (ltb (digit_value c) 16) refl
  where
    by_cases : (b : Bool) → ltb (digit_value c) 16 ≡ b → 16 ≤ digit_value c
    by_cases true i =
        let l : digit_value c < 16 = grind (arith, nat_tests) in
        let k : d ≡ c = sym f ∙ first_byte s r c u e (digit_ascii c l) in
        absurd (let m : 16 ≤ digit_value c = subst (λ x. 16 ≤ digit_value x) k h in omega arith)
    by_cases false i = grind (arith, nat_tests)

-- a byte that is no digit begins a character that is no digit
pub no_digit_front : (s : List ℕ) (d : ℕ) → IsUtf8 s → Some d ≡ slice_get s 0 → 16 ≤ digit_value d → (c : ℕ) × (r : List ℕ) × (chars s ≡ c ∷ r) × (16 ≤ digit_value c)
no_digit_front s d u f h = by_chars (chars s) refl
  where
    by_chars : (xs : List ℕ) → chars s ≡ xs → (c : ℕ) × (r : List ℕ) × (chars s ≡ c ∷ r) × (16 ≤ digit_value c)
    by_chars [] e =
        let none : length s ≡ 0 = ap length (sym (encodes-chars s u) ∙ ap encode_utf8_all e) in
        let some : 0 < length s = (byte_first s d f).0 in
        absurd (omega arith)
    by_chars (c ∷ r) e = (c, r, e, no_digit s r c d u e (byte_first s d f).1 h)

pub hex_no_digit : (w n d : ℕ) (b s : List ℕ) → 0 < w → IsUtf8 s → Some d ≡ slice_get s 0 → 16 ≤ digit_value d → hex w n b (chars s) ≡ bad (Some InvalidEscapeSequence) (here b)
hex_no_digit w n d b s l u f h = let k = no_digit_front s d u f h in hex_wrong w n k.0 b (chars s) k.1 l k.2 k.3

-- the value of up to three digits
pub three_digits : (k v : ℕ) → k ≤ 3 → v < 16 ^ k → v < 4096
three_digits zero v l h = omega arith
three_digits (suc zero) v l h = omega arith
three_digits (suc (suc zero)) v l h = omega arith
three_digits (suc (suc (suc zero))) v l h = omega arith
three_digits (suc (suc (suc (suc k)))) v l h = absurd (omega arith)

pub one_more : (k v d : ℕ) → k ≤ 3 → v < 16 ^ k → d < 16 → v * 16 + d < 16 ^ (k + 1)
one_more zero v d l h i = omega arith
one_more (suc zero) v d l h i = omega arith
one_more (suc (suc zero)) v d l h i = omega arith
one_more (suc (suc (suc zero))) v d l h i = omega arith
one_more (suc (suc (suc (suc k)))) v d l h i = absurd (omega arith)

-- ---- `\0`

pub nul_digit : (c : ℕ) (b xs ys : List ℕ) → xs ≡ c ∷ ys → is_digit c ≡ true → after_nul b xs ≡ bad (Some InvalidEscapeSequence) (here b)
nul_digit c b xs ys e h = rw e (rw h refl)

pub digit_escape : (c : ℕ) (b xs : List ℕ) → 49 ≤ c → c ≤ 57 → not_short None b c xs ≡ bad (Some InvalidEscapeSequence) (here b)
digit_escape c b xs l h =
    let zero_sign : (c == 48) ≡ false = grind (arith, nat_tests) in
    let x : (c == 120) ≡ false = grind (arith, nat_tests) in
    let u : (c == 117) ≡ false = grind (arith, nat_tests) in
    let cr : (c == 13) ≡ false = grind (arith, nat_tests) in
    let ends : is_terminator c ≡ false = grind (arith, nat_tests) in
    let digit : is_digit c ≡ true = grind (arith, nat_tests) in
    rw (ends, digit) (rw (zero_sign, x, u, cr) refl)

-- ---- `\u`

pub unicode_then : (b xs : List ℕ) → unicode_at b xs ≡ and_then (hex 4 0 b xs) (first b)
unfolding unicode_at
unicode_then b xs = refl

pub unicode_single : (n : ℕ) (b xs ys : List ℕ) → hex 4 0 b xs ≡ got n ys → IsScalar n → unicode_at b xs ≡ got n ys
unicode_single n b xs ys e s =
    let k : is_surrogate n ≡ false = grind (arith, nat_tests) in
    unicode_then b xs ∙ ap (λ z. and_then z (first b)) e ∙ rw k refl

pub unicode_surrogate : (n : ℕ) (b xs ys : List ℕ) → hex 4 0 b xs ≡ got n ys → n < 0x1_0000 → (IsScalar n → ⊥) → unicode_at b xs ≡ second n b ys
unicode_surrogate n b xs ys e l s =
    let k : is_surrogate n ≡ true = surrogate n l s in
    unicode_then b xs ∙ ap (λ z. and_then z (first b)) e ∙ rw k refl
  where
    surrogate : (n : ℕ) → n < 0x1_0000 → (IsScalar n → ⊥) → is_surrogate n ≡ true
    surrogate n l s = grind (arith, nat_tests)

word_then : {B : Type 0} (t : Bool) (m : Read B) (k : Read (Unit {0})) (f : Unit {0} → List ℕ → Read B) (e : Option ErrorCode) (p : Place) → m ≡ and_then k f → cond t m (bad e p) ≡ and_then (cond t k (bad e p)) f
word_then true m k f e p h = h
word_then false m k f e p h = refl

abbrev pub other_half : ℕ → List ℕ → Unit {0} → List ℕ → Read ℕ
other_half n b u y = and_then (hex 4 0 b y) (paired n b)

second_u_word : (n : ℕ) (b xs : List ℕ) → second_u n b xs ≡ and_then (word_at EofParsingEscapeSequence InvalidEscapeSequence tt (117 ∷ []) xs) (other_half n b)
unfolding word_at
second_u_word n b [] = refl
second_u_word n b (c ∷ r) = word_then (c == 117) (other_half n b tt r) (got tt r) (other_half n b) (Some InvalidEscapeSequence) (here (c ∷ r)) refl

second_list : (n : ℕ) (b xs : List ℕ) → second n b xs ≡ and_then (word_at EofParsingEscapeSequence InvalidEscapeSequence tt (92 ∷ 117 ∷ []) xs) (other_half n b)
unfolding word_at
second_list n b [] = refl
second_list n b (c ∷ r) = word_then (c == 92) (second_u n b r) (word_at EofParsingEscapeSequence InvalidEscapeSequence tt (117 ∷ []) r) (other_half n b) (Some InvalidEscapeSequence) (here (c ∷ r)) (second_u_word n b r)

-- the word `\u`
abbrev pub escape_sign : List ℕ
escape_sign = chars (92 ∷ 117 ∷ [])

sign_chars : escape_sign ≡ 92 ∷ 117 ∷ []
unfolding lib.Utf8.encode
sign_chars = chars-encodes (92 ∷ 117 ∷ []) refl

pub second_word : (n : ℕ) (b xs : List ℕ) → second n b xs ≡ and_then (word_at EofParsingEscapeSequence InvalidEscapeSequence tt escape_sign xs) (other_half n b)
second_word n b xs = second_list n b xs ∙ ap (λ w. and_then (word_at EofParsingEscapeSequence InvalidEscapeSequence tt w xs) (other_half n b)) (sym sign_chars)

-- `\u` is there, and four digits follow it
pub second_digits : (n : ℕ) (b xs ys : List ℕ) → word_at EofParsingEscapeSequence InvalidEscapeSequence (tt {0}) escape_sign xs ≡ got tt ys → second n b xs ≡ and_then (hex 4 0 b ys) (paired n b)
second_digits n b xs ys e = second_word n b xs ∙ ap (λ z. and_then z (other_half n b)) e

pub second_pair : (n k : ℕ) (b xs ys zs : List ℕ) → word_at EofParsingEscapeSequence InvalidEscapeSequence (tt {0}) escape_sign xs ≡ got tt ys → hex 4 0 b ys ≡ got k zs → (is_high n && is_low k) ≡ true → second n b xs ≡ got (pair_value n k) zs
second_pair n k b xs ys zs e f h = second_digits n b xs ys e ∙ ap (λ z. and_then z (paired n b)) f ∙ rw h refl

pub second_unpaired : (n k : ℕ) (b xs ys zs : List ℕ) → word_at EofParsingEscapeSequence InvalidEscapeSequence (tt {0}) escape_sign xs ≡ got tt ys → hex 4 0 b ys ≡ got k zs → (is_high n && is_low k) ≡ false → second n b xs ≡ bad None (here b)
second_unpaired n k b xs ys zs e f h = second_digits n b xs ys e ∙ ap (λ z. and_then z (paired n b)) f ∙ rw h refl

-- ---- after the backslash

pub escape_end : (b xs : List ℕ) → xs ≡ [] → escape_at b xs ≡ bad (Some EofParsingEscapeSequence) inner
unfolding escape_at
escape_end b xs e = rw e refl

pub escape_step : (o : Option ℕ) (c : ℕ) (b xs ys : List ℕ) → xs ≡ c ∷ ys → short_escape c ≡ o → escape_at b xs ≡ not_short o b c ys
unfolding escape_at
escape_step o c b xs ys e h = rw e (ap (λ z. not_short z b c ys) h)
