-- What is read of an escape is an escape, and what is refused has a fault of the table.
use Rattle.std.proofs.Common.{◌≡◌, ℕ, Bool, true, false, ◌&&◌, List, [], ◌∷◌, ◌++◌, refl, ap, sym, ◌∙◌, append_assoc, arith, subst, Option, Some, None}
use Rattle.std.specs.Prelude.{◌==◌}
use Rattle.std.proofs.lemmas.Bool.Decides.{nat_tests}
use Rattle.std.proofs.lemmas.List.{append-nil}
use Rattle.json5_grammar.specs.Language.Characters.{is_digit, is_in, is_terminator}
use Rattle.json5_grammar.specs.Language.Strings.{short_escape, stands_for_itself, Hex4, is_high, is_low, Unicode, single, surrogates, Escape, short, nul, byte, unicode, line_end, cr_lf, lone_cr, itself}
use Rattle.json5_grammar.specs.Faults.Codes.{ErrorCode, InvalidEscapeSequence, Shown, by_char, by_end}
use Rattle.json5_grammar.specs.Faults.Tokens.{is_surrogate, in_byte, in_first, in_second, no_backslash, no_u, lone_backslash, digits_missing, second_missing, EscapeFault, digit_after_nul, escaped_digit, no_escape_digit, no_second_escape, unpaired, escape_ends}
use Rattle.json5_grammar.specs.Model.Reading.{Place, here, Read, got, bad, and_then, IsAt}
use Rattle.json5_grammar.specs.Model.ReadTexts.{hex, paired, second, second_u, first, unicode_at, one_char, after_nul, after_cr, escape_at, not_short}
use Rattle.json5_grammar.proofs.CommonLemmas.{by_test, eq_from, neq_from}
use Rattle.json5_grammar.proofs.HexadecimalEscapes.{wrong, cut, Hex4Sound, hex4_sound, Hex2Sound, hex2_sound}

-- x begins with a faulty escape of this code at this position
pub record Blamed (m : Bool) (x : List ℕ) (code : Option ErrorCode) (p : Place) : Type 0 where
  pub place : Option (List ℕ)
  pub part : List ℕ
  pub shown : Shown
  pub fault : EscapeFault m x code place part shown
  pub is_at : IsAt x place p

abbrev pub UnicodeSound : Bool → List ℕ → Read ℕ → Type 0
UnicodeSound m x (got n r) = (e : List ℕ) × (x ≡ e ++ r) × Unicode e n
UnicodeSound m x (bad code p) = Blamed m x code p

blamed_to : {m : Bool} {x : List ℕ} {code : Option ErrorCode} {p : Place} (y : List ℕ) → x ≡ y → Blamed m x code p → Blamed m y code p
blamed_to {m = m} {code = code} {p = p} y e b = subst (λ z. Blamed m z code p) e b

-- the second escape's digits
second_digits : {h : List ℕ} {n : ℕ} (m : Bool) (x y : List ℕ) (res : Read ℕ) → Hex4 h n → is_surrogate n ≡ true → x ≡ 92 ∷ 117 ∷ h ++ 92 ∷ 117 ∷ y → Hex4Sound x y res → UnicodeSound m x (and_then res (paired n x))
second_digits {h = h} {n = n} m x y (got k z) d s e (l, f, i) =
    by_test (UnicodeSound m x) (is_high n && is_low k) _ _
    (λ t. (92 ∷ 117 ∷ h ++ 92 ∷ 117 ∷ l, whole, surrogates d i (left n k t) (right n k t)))
    (λ t. record { place = Some []; part = 92 ∷ 117 ∷ h ++ 92 ∷ 117 ∷ l; shown = by_char; fault = subst (λ v. EscapeFault m v None (Some []) (92 ∷ 117 ∷ h ++ 92 ∷ 117 ∷ l) by_char) (sym whole) (unpaired z d i s t); is_at = refl })
  where
    whole : x ≡ (92 ∷ 117 ∷ h ++ 92 ∷ 117 ∷ l) ++ z
    whole = e ∙ ap (λ v. 92 ∷ 117 ∷ h ++ 92 ∷ 117 ∷ v) f ∙ sym (append_assoc (92 ∷ 117 ∷ h) (92 ∷ 117 ∷ l) z)

    left : (n k : ℕ) → (is_high n && is_low k) ≡ true → is_high n ≡ true
    left n k t = grind (arith, nat_tests)

    right : (n k : ℕ) → (is_high n && is_low k) ≡ true → is_low k ≡ true
    right n k t = grind (arith, nat_tests)
second_digits {h = h} m x _ (bad _ _) d s e (wrong {d = v} c r i l k) =
    subst (λ z. Blamed m z (Some InvalidEscapeSequence) (here z)) (append_assoc (92 ∷ 117 ∷ h) (92 ∷ 117 ∷ v) (c ∷ r) ∙ sym e)
    (record { place = Some []; part = (92 ∷ 117 ∷ h ++ 92 ∷ 117 ∷ v) ++ c ∷ []; shown = by_char; fault = no_escape_digit c r (in_second d s i l) k; is_at = refl })
second_digits {h = h} m x y (bad _ _) d s e (cut i l) =
    blamed_to x (sym e) (record { place = None; part = 92 ∷ 117 ∷ h ++ 92 ∷ 117 ∷ y; shown = by_end; fault = escape_ends (digits_missing (in_second d s i l)); is_at = tt })

second_u_sound : {h : List ℕ} {n : ℕ} (m : Bool) (x y : List ℕ) → Hex4 h n → is_surrogate n ≡ true → x ≡ 92 ∷ 117 ∷ h ++ 92 ∷ y → UnicodeSound m x (second_u n x y)
second_u_sound {h = h} m x [] d s e =
    blamed_to x (sym e) (record { place = None; part = 92 ∷ 117 ∷ h ++ 92 ∷ []; shown = by_end; fault = escape_ends (second_missing (no_u d s)); is_at = tt })
second_u_sound {h = h} {n = n} m x (c ∷ y) d s e =
    by_test (UnicodeSound m x) (c == 117) (and_then (hex 4 0 x y) (paired n x)) (bad (Some InvalidEscapeSequence) (here (c ∷ y)))
    (λ t. second_digits m x y (hex 4 0 x y) d s (e ∙ ap (λ z. 92 ∷ 117 ∷ h ++ 92 ∷ z ∷ y) (eq_from c 117 t)) (hex4_sound x y))
    (λ t. blamed_to x (append_assoc (92 ∷ 117 ∷ h) (92 ∷ []) (c ∷ y) ∙ sym e)
    (record { place = Some (92 ∷ 117 ∷ h ++ 92 ∷ []); part = (92 ∷ 117 ∷ h ++ 92 ∷ []) ++ c ∷ []; shown = by_char; fault = no_second_escape c y (no_u d s) (neq_from c 117 t); is_at = refl }))

second_sound : {h : List ℕ} {n : ℕ} (m : Bool) (x y : List ℕ) → Hex4 h n → is_surrogate n ≡ true → x ≡ 92 ∷ 117 ∷ h ++ y → UnicodeSound m x (second n x y)
second_sound {h = h} m x [] d s e =
    blamed_to x (sym (append-nil (92 ∷ 117 ∷ h)) ∙ sym e) (record { place = None; part = 92 ∷ 117 ∷ h; shown = by_end; fault = escape_ends (second_missing (no_backslash d s)); is_at = tt })
second_sound {h = h} {n = n} m x (c ∷ y) d s e =
    by_test (UnicodeSound m x) (c == 92) (second_u n x y) (bad (Some InvalidEscapeSequence) (here (c ∷ y)))
    (λ t. second_u_sound m x y d s (e ∙ ap (λ z. 92 ∷ 117 ∷ h ++ z ∷ y) (eq_from c 92 t)))
    (λ t. blamed_to x (sym e)
    (record { place = Some (92 ∷ 117 ∷ h); part = 92 ∷ 117 ∷ h ++ c ∷ []; shown = by_char; fault = no_second_escape c y (no_backslash d s) (neq_from c 92 t); is_at = refl }))

first_digits : (m : Bool) (x y : List ℕ) (res : Read ℕ) → x ≡ 92 ∷ 117 ∷ y → Hex4Sound x y res → UnicodeSound m x (and_then res (first x))
first_digits m x y (got n r) e (h, f, d) =
    by_test (UnicodeSound m x) (is_surrogate n) (second n x r) (got n r)
    (λ t. second_sound m x r d t (e ∙ ap (λ z. 92 ∷ 117 ∷ z) f))
    (λ t. (92 ∷ 117 ∷ h, e ∙ ap (λ z. 92 ∷ 117 ∷ z) f, single d t))
first_digits m x _ (bad _ _) e (wrong {d = v} c r i l k) =
    subst (λ z. Blamed m z (Some InvalidEscapeSequence) (here z)) (sym e)
    (record { place = Some []; part = 92 ∷ 117 ∷ v ++ c ∷ []; shown = by_char; fault = no_escape_digit c r (in_first i l) k; is_at = refl })
first_digits m x y (bad _ _) e (cut i l) =
    blamed_to x (sym e) (record { place = None; part = 92 ∷ 117 ∷ y; shown = by_end; fault = escape_ends (digits_missing (in_first i l)); is_at = tt })

pub unicode_sound : (m : Bool) (y : List ℕ) → UnicodeSound m (92 ∷ 117 ∷ y) (unicode_at (92 ∷ 117 ∷ y) y)
unfolding unicode_at
unicode_sound m y = first_digits m (92 ∷ 117 ∷ y) y (hex 4 0 (92 ∷ 117 ∷ y) y) refl (hex4_sound (92 ∷ 117 ∷ y) y)

-- ---- the escapes of a string

abbrev pub EscapeSound : List ℕ → Read (List ℕ) → Type 0
EscapeSound x (got v r) = (e : List ℕ) × (x ≡ e ++ r) × Escape e v r
EscapeSound x (bad code p) = Blamed true x code p

nul_sound : (r : List ℕ) → EscapeSound (92 ∷ 48 ∷ r) (after_nul (92 ∷ 48 ∷ r) r)
nul_sound [] = (92 ∷ 48 ∷ [], refl, nul tt)
nul_sound (c ∷ r) =
    by_test (EscapeSound (92 ∷ 48 ∷ c ∷ r)) (is_digit c) _ _
    (λ t. record { place = Some []; part = 92 ∷ 48 ∷ c ∷ []; shown = by_char; fault = digit_after_nul r t; is_at = refl })
    (λ t. (92 ∷ 48 ∷ [], refl, nul t))

cr_sound : (r : List ℕ) → EscapeSound (92 ∷ 13 ∷ r) (after_cr r)
cr_sound [] = (92 ∷ 13 ∷ [], refl, lone_cr tt)
cr_sound (c ∷ r) =
    by_test (EscapeSound (92 ∷ 13 ∷ c ∷ r)) (c == 10) _ _
    (λ t. (92 ∷ 13 ∷ 10 ∷ [], ap (λ z. 92 ∷ 13 ∷ z ∷ r) (eq_from c 10 t), cr_lf))
    (λ t. (92 ∷ 13 ∷ [], refl, lone_cr t))

byte_sound : (x y : List ℕ) (res : Read ℕ) → x ≡ 92 ∷ 120 ∷ y → Hex2Sound x y res → EscapeSound x (and_then res one_char)
byte_sound x y (got n r) e (c, d, f, i, v) =
    (92 ∷ 120 ∷ c ∷ d ∷ [], e ∙ ap (λ z. 92 ∷ 120 ∷ z) f, subst (λ z. Escape (92 ∷ 120 ∷ c ∷ d ∷ []) (z ∷ []) r) (sym v) (byte i))
byte_sound x _ (bad _ _) e (wrong {d = v} c r i l k) =
    subst (λ z. Blamed true z (Some InvalidEscapeSequence) (here z)) (sym e)
    (record { place = Some []; part = 92 ∷ 120 ∷ v ++ c ∷ []; shown = by_char; fault = no_escape_digit c r (in_byte i l) k; is_at = refl })
byte_sound x y (bad _ _) e (cut i l) =
    blamed_to x (sym e) (record { place = None; part = 92 ∷ 120 ∷ y; shown = by_end; fault = escape_ends (digits_missing (in_byte i l)); is_at = tt })

by_unicode : (x : List ℕ) (res : Read ℕ) → UnicodeSound true x res → EscapeSound x (and_then res one_char)
by_unicode x (got n r) (e, f, u) = (e, f, unicode u)
by_unicode x (bad code p) b = b

self_from : (c : ℕ) → short_escape c ≡ None → (c == 120) ≡ false → (c == 117) ≡ false → is_terminator c ≡ false → is_digit c ≡ false → stands_for_itself c ≡ true
self_from c s x u t d = grind (arith, nat_tests)

digit_from : (c : ℕ) → (c == 48) ≡ false → is_digit c ≡ true → is_in 49 57 c ≡ true
digit_from c z d = grind (arith, nat_tests)

not_short_sound : (o : Option ℕ) (c : ℕ) (r : List ℕ) → short_escape c ≡ o → EscapeSound (92 ∷ c ∷ r) (not_short o (92 ∷ c ∷ r) c r)
not_short_sound (Some d) c r e = (92 ∷ c ∷ [], refl, short e)
not_short_sound None c r e =
    let x : List ℕ = 92 ∷ c ∷ r in
    by_test (EscapeSound x) (c == 48) _ _ (λ t. subst (λ z. EscapeSound (92 ∷ z ∷ r) (after_nul (92 ∷ z ∷ r) r)) (sym (eq_from c 48 t)) (nul_sound r))
    (λ no_zero. by_test (EscapeSound x) (c == 120) _ _ (λ t. byte_sound x r (hex 2 0 x r) (ap (λ z. 92 ∷ z ∷ r) (eq_from c 120 t)) (hex2_sound x r))
    (λ no_x. by_test (EscapeSound x) (c == 117) _ _ (λ t. subst (λ z. EscapeSound (92 ∷ z ∷ r) (and_then (unicode_at (92 ∷ z ∷ r) r) one_char)) (sym (eq_from c 117 t)) (by_unicode (92 ∷ 117 ∷ r) (unicode_at (92 ∷ 117 ∷ r) r) (unicode_sound true r)))
    (λ not_u. by_test (EscapeSound x) (c == 13) _ _ (λ t. subst (λ z. EscapeSound (92 ∷ z ∷ r) (after_cr r)) (sym (eq_from c 13 t)) (cr_sound r))
    (λ not_cr. by_test (EscapeSound x) (is_terminator c) _ _ (λ t. (92 ∷ c ∷ [], refl, line_end t (neq_from c 13 not_cr)))
    (λ no_term. by_test (EscapeSound x) (is_digit c) _ _
    (λ t. record { place = Some []; part = 92 ∷ c ∷ []; shown = by_char; fault = escaped_digit r (digit_from c no_zero t); is_at = refl })
    (λ no_digit. (92 ∷ c ∷ [], refl, itself (self_from c e no_x not_u no_term no_digit))))))))

pub escape_sound : (y : List ℕ) → EscapeSound (92 ∷ y) (escape_at (92 ∷ y) y)
unfolding escape_at
escape_sound [] = record { place = None; part = 92 ∷ []; shown = by_end; fault = escape_ends lone_backslash; is_at = tt }
escape_sound (c ∷ r) = not_short_sound (short_escape c) c r refl
