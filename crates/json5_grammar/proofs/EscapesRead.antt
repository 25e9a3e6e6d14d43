-- An escape is read as it is spelled, and a faulty one is refused with its code and position.
use Rattle.std.proofs.Common.{◌≡◌, ℕ, ◌<◌, Bool, true, false, List, [], ◌∷◌, ◌++◌, length, refl, ap, sym, ◌∙◌, append_assoc, arith, ◌≢◌, ◌⊎◌, inl, inr, Option, Some, None}
use Rattle.std.specs.Prelude.{◌==◌}
use Rattle.std.proofs.lemmas.Bool.Decides.{nat_tests}
use Rattle.std.proofs.lemmas.List.{append-nil}
use Rattle.json5_grammar.specs.Language.Characters.{is_digit, is_hex_digit, is_in, is_terminator, NotBegun, Each}
use Rattle.json5_grammar.specs.Language.Strings.{short_escape, stands_for_itself, Hex4, is_high, Unicode, single, surrogates, Escape, short, nul, byte, unicode, line_end, cr_lf, lone_cr, itself}
use Rattle.json5_grammar.specs.Faults.Codes.{ErrorCode, EofParsingEscapeSequence, InvalidEscapeSequence, Shown}
use Rattle.json5_grammar.specs.Faults.Tokens.{is_surrogate, in_byte, in_first, in_second, no_backslash, no_u, lone_backslash, digits_missing, second_missing, EscapeFault, digit_after_nul, escaped_digit, no_escape_digit, no_second_escape, unpaired, escape_ends}
use Rattle.json5_grammar.specs.Model.Reading.{Place, here, inner, Read, got, bad, and_then}
use Rattle.json5_grammar.specs.Model.ReadTexts.{hex, paired, second, first, unicode_at, one_char, after_nul, after_cr, escape_at, name_escape, not_short}
use Rattle.json5_grammar.proofs.CommonLemmas.{not_eq}
use Rattle.json5_grammar.proofs.Refusals.{Refuses}
use Rattle.json5_grammar.proofs.HexadecimalEscapes.{hex4_read, hex2_read, hex_refused, hex_cut}

-- ---- `\u`

at_first : {h : List ℕ} {n : ℕ} (b r : List ℕ) → Hex4 h n → unicode_at b (h ++ r) ≡ first b n r
unfolding unicode_at
at_first b r d = ap (λ z. and_then z (first b)) (hex4_read b r d)

pub at_single : {h : List ℕ} {n : ℕ} (b r : List ℕ) → Hex4 h n → is_surrogate n ≡ false → unicode_at b (h ++ r) ≡ got n r
at_single b r d s = at_first b r d ∙ rw s

pub at_second : {h : List ℕ} {n : ℕ} (b r : List ℕ) → Hex4 h n → is_surrogate n ≡ true → unicode_at b (h ++ r) ≡ second n b r
at_second b r d s = at_first b r d ∙ rw s

-- after both `\u`
pub at_both : {h : List ℕ} {n : ℕ} (b y r : List ℕ) → Hex4 h n → is_surrogate n ≡ true → unicode_at b ((h ++ 92 ∷ 117 ∷ y) ++ r) ≡ and_then (hex 4 0 b (y ++ r)) (paired n b)
at_both {h = h} b y r d s = ap (unicode_at b) (append_assoc h (92 ∷ 117 ∷ y) r) ∙ at_second b (92 ∷ 117 ∷ y ++ r) d s

high_surrogate : (n : ℕ) → is_high n ≡ true → is_surrogate n ≡ true
high_surrogate n h = grind (arith, nat_tests)

-- the escape x, from its backslash on; true in a string
abbrev pub escape_from : Bool → List ℕ → Read (List ℕ)
escape_from m [] = bad None inner
escape_from true (a ∷ r) = escape_at (a ∷ r) r
escape_from false (a ∷ r) = and_then (name_escape (a ∷ r) r) one_char

from_u : (m : Bool) (r : List ℕ) → escape_from m (92 ∷ 117 ∷ r) ≡ and_then (unicode_at (92 ∷ 117 ∷ r) r) one_char
unfolding escape_at name_escape
from_u true r = refl
from_u false r = refl

pub unicode_read : {e : List ℕ} {n : ℕ} (m : Bool) (r : List ℕ) → Unicode e n → escape_from m (e ++ r) ≡ got (n ∷ []) r
unicode_read m r (single {h = h} {n = n} d s) = from_u m (h ++ r) ∙ ap (λ z. and_then z one_char) (at_single (92 ∷ 117 ∷ h ++ r) r d s)
unicode_read m r (surrogates {h = h} {l = l} {n = n} {k = k} d e a b) =
    let q : List ℕ = 92 ∷ 117 ∷ (h ++ 92 ∷ 117 ∷ l) ++ r in
    from_u m ((h ++ 92 ∷ 117 ∷ l) ++ r)
    ∙ ap (λ z. and_then z one_char) (at_both q l r d (high_surrogate n a))
    ∙ ap (λ z. and_then (and_then z (paired n q)) one_char) (hex4_read q r e)
    ∙ rw (a, b)

-- ---- whole escapes

line_cases : (c : ℕ) → is_terminator c ≡ true → c ≢ 13 → (c ≡ 10) ⊎ ((c ≡ 0x2028) ⊎ (c ≡ 0x2029))
line_cases c h n = grind (arith, nat_tests)

self_short : (c : ℕ) → stands_for_itself c ≡ true → short_escape c ≡ None
self_short c h = grind (arith, nat_tests)

nul_read : (b r : List ℕ) → NotBegun is_digit r → after_nul b r ≡ got (0 ∷ []) r
nul_read b [] h = refl
nul_read b (d ∷ r) h = rw h

cr_read : (r : List ℕ) → NotBegun (λ c. c == 10) r → after_cr r ≡ got [] r
cr_read [] h = refl
cr_read (d ∷ r) h = rw h

line_read : (c : ℕ) (b r : List ℕ) → (c ≡ 10) ⊎ ((c ≡ 0x2028) ⊎ (c ≡ 0x2029)) → escape_at b (c ∷ r) ≡ got [] r
unfolding escape_at
line_read c b r (inl e) = rw e
line_read c b r (inr (inl e)) = rw e
line_read c b r (inr (inr e)) = rw e

self_fails : (c : ℕ) → stands_for_itself c ≡ true → ((c == 48) ≡ false) × ((c == 120) ≡ false) × ((c == 117) ≡ false) × ((c == 13) ≡ false) × (is_terminator c ≡ false) × (is_digit c ≡ false)
self_fails c h = (grind (arith, nat_tests), grind (arith, nat_tests), grind (arith, nat_tests), grind (arith, nat_tests), grind (arith, nat_tests), grind (arith, nat_tests))

self_read : (c : ℕ) (b r : List ℕ) → stands_for_itself c ≡ true → escape_at b (c ∷ r) ≡ got (c ∷ []) r
unfolding escape_at
self_read c b r h = let k = self_fails c h in ap (λ z. not_short z b c r) (self_short c h) ∙ rw (k.4, k.5, k.0, k.1, k.2, k.3)

pub escape_read : {e v r : List ℕ} → Escape e v r → escape_from true (e ++ r) ≡ got v r
unfolding escape_at
escape_read (short {c = c} h) = rw h
escape_read (nul {r = r} h) = nul_read (92 ∷ 48 ∷ r) r h
escape_read {r = r} (byte {a = x} {b = y} h) = ap (λ z. and_then z one_char) (hex2_read x y (92 ∷ 120 ∷ x ∷ y ∷ r) r h)
escape_read {r = r} (unicode u) = unicode_read true r u
escape_read {r = r} (line_end {c = c} t n) = line_read c (92 ∷ c ∷ r) r (line_cases c t n)
escape_read cr_lf = refl
escape_read (lone_cr {r = r} h) = cr_read r h
escape_read {r = r} (itself {c = c} h) = self_read c (92 ∷ c ∷ r) r h

-- ---- faulty escapes

digit_in : (c : ℕ) → is_in 49 57 c ≡ true → (short_escape c ≡ None) × ((c == 48) ≡ false) × ((c == 120) ≡ false) × ((c == 117) ≡ false) × ((c == 13) ≡ false) × (is_terminator c ≡ false) × (is_digit c ≡ true)
digit_in c h = (grind (arith, nat_tests), grind (arith, nat_tests), grind (arith, nat_tests), grind (arith, nat_tests), grind (arith, nat_tests), grind (arith, nat_tests), grind (arith, nat_tests))

digit_refused : (c : ℕ) (b r : List ℕ) → is_in 49 57 c ≡ true → escape_at b (c ∷ r) ≡ bad (Some InvalidEscapeSequence) (here b)
unfolding escape_at
digit_refused c b r h = let k = digit_in c h in ap (λ z. not_short z b c r) k.0 ∙ rw (k.5, k.6, k.1, k.2, k.3, k.4)

-- what `\u` refuses is refused
by_u : (m : Bool) (r : List ℕ) (code : Option ErrorCode) (p : Place) → unicode_at (92 ∷ 117 ∷ r) r ≡ bad code p → escape_from m (92 ∷ 117 ∷ r) ≡ bad code p
by_u m r code p e = from_u m r ∙ ap (λ z. and_then z one_char) e

first_refused : (d b : List ℕ) (c : ℕ) (r : List ℕ) → Each is_hex_digit d → length d < 4 → is_hex_digit c ≡ false → unicode_at b (d ++ c ∷ r) ≡ bad (Some InvalidEscapeSequence) (here b)
unfolding unicode_at
first_refused d b c r e l h = ap (λ z. and_then z (first b)) (hex_refused 4 0 d b c r e l h)

first_cut : (d b : List ℕ) → Each is_hex_digit d → length d < 4 → unicode_at b d ≡ bad (Some EofParsingEscapeSequence) inner
unfolding unicode_at
first_cut d b e l = ap (λ z. and_then z (first b)) (hex_cut 4 0 d b e l)

second_refused : {h : List ℕ} {n : ℕ} (d b : List ℕ) (c : ℕ) (r : List ℕ) → Hex4 h n → is_surrogate n ≡ true → Each is_hex_digit d → length d < 4 → is_hex_digit c ≡ false
    → unicode_at b ((h ++ 92 ∷ 117 ∷ d) ++ c ∷ r) ≡ bad (Some InvalidEscapeSequence) (here b)
second_refused {n = n} d b c r x s e l h = at_both b d (c ∷ r) x s ∙ ap (λ z. and_then z (paired n b)) (hex_refused 4 0 d b c r e l h)

second_cut : {h : List ℕ} {n : ℕ} (d b : List ℕ) → Hex4 h n → is_surrogate n ≡ true → Each is_hex_digit d → length d < 4
    → unicode_at b (h ++ 92 ∷ 117 ∷ d) ≡ bad (Some EofParsingEscapeSequence) inner
second_cut {n = n} d b x s e l = at_second b (92 ∷ 117 ∷ d) x s ∙ ap (λ z. and_then z (paired n b)) (hex_cut 4 0 d b e l)

pub escape_refused : {m : Bool} {x part : List ℕ} {code : Option ErrorCode} {place : Option (List ℕ)} {shown : Shown} → EscapeFault m x code place part shown → Refuses (escape_from m x) x code place
unfolding escape_at
escape_refused (digit_after_nul {c = c} r h) = (here (92 ∷ 48 ∷ c ∷ r), rw h, refl)
escape_refused (escaped_digit {c = c} r h) = (here (92 ∷ c ∷ r), digit_refused c (92 ∷ c ∷ r) r h, refl)
escape_refused (no_escape_digit c r (in_byte {d = d} e l) h) = (here (92 ∷ 120 ∷ d ++ c ∷ r), ap (λ z. and_then z one_char) (hex_refused 2 0 d (92 ∷ 120 ∷ d ++ c ∷ r) c r e l h), refl)
escape_refused {m = m} (no_escape_digit c r (in_first {d = d} e l) h) = (here (92 ∷ 117 ∷ d ++ c ∷ r), by_u m (d ++ c ∷ r) _ _ (first_refused d (92 ∷ 117 ∷ d ++ c ∷ r) c r e l h), refl)
escape_refused {m = m} (no_escape_digit c r (in_second {h = h} {d = d} x s e l) k) =
    let y : List ℕ = (h ++ 92 ∷ 117 ∷ d) ++ c ∷ r in
    (here (92 ∷ 117 ∷ y), by_u m y _ _ (second_refused d (92 ∷ 117 ∷ y) c r x s e l k), refl)
escape_refused {m = m} (no_second_escape c r (no_backslash {h = h} x s) n) =
    (here (c ∷ r), by_u m (h ++ c ∷ r) _ _ (at_second (92 ∷ 117 ∷ h ++ c ∷ r) (c ∷ r) x s ∙ rw (not_eq c 92 n)), refl)
escape_refused {m = m} (no_second_escape c r (no_u {h = h} x s) n) =
    let y : List ℕ = (h ++ 92 ∷ []) ++ c ∷ r in
    (here (c ∷ r), by_u m y _ _ (ap (unicode_at (92 ∷ 117 ∷ y)) (append_assoc h (92 ∷ []) (c ∷ r)) ∙ at_second (92 ∷ 117 ∷ y) (92 ∷ c ∷ r) x s ∙ rw (not_eq c 117 n)), refl)
escape_refused {m = m} (unpaired {h = h} {l = l} {n = n} r x y s f) =
    let z : List ℕ = (h ++ 92 ∷ 117 ∷ l) ++ r in
    let b : List ℕ = 92 ∷ 117 ∷ z in
    (here b, by_u m z _ _ (at_both b l r x s ∙ ap (λ u. and_then u (paired n b)) (hex4_read b r y) ∙ rw f), refl)
escape_refused (escape_ends lone_backslash) = (inner, refl, tt)
escape_refused (escape_ends (digits_missing (in_byte {d = d} e l))) = (inner, ap (λ z. and_then z one_char) (hex_cut 2 0 d (92 ∷ 120 ∷ d) e l), tt)
escape_refused {m = m} (escape_ends (digits_missing (in_first {d = d} e l))) = (inner, by_u m d _ _ (first_cut d (92 ∷ 117 ∷ d) e l), tt)
escape_refused {m = m} (escape_ends (digits_missing (in_second {h = h} {d = d} x s e l))) = (inner, by_u m (h ++ 92 ∷ 117 ∷ d) _ _ (second_cut d (92 ∷ 117 ∷ h ++ 92 ∷ 117 ∷ d) x s e l), tt)
escape_refused {m = m} (escape_ends (second_missing (no_backslash {h = h} x s))) =
    (inner, by_u m h _ _ (ap (unicode_at (92 ∷ 117 ∷ h)) (sym (append-nil h)) ∙ at_second (92 ∷ 117 ∷ h) [] x s), tt)
escape_refused {m = m} (escape_ends (second_missing (no_u {h = h} x s))) =
    (inner, by_u m (h ++ 92 ∷ []) _ _ (at_second (92 ∷ 117 ∷ h ++ 92 ∷ []) (92 ∷ []) x s), tt)
