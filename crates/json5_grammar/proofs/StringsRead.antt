-- A string is read as it is spelled, and a faulty one is refused with its code and position.
use Rattle.std.proofs.Common.{◌≡◌, ℕ, zero, suc, ◌<◌, Bool, true, false, ◌||◌, List, [], ◌∷◌, ◌++◌, length, refl, ap, sym, ◌∙◌, append_assoc, arith, Option, Some, length-append}
use Rattle.std.specs.Prelude.{◌==◌}
use Rattle.std.proofs.lemmas.Bool.Decides.{nat_tests}
use Rattle.std.proofs.lemmas.List.{append-nil}
use Rattle.json5_grammar.specs.Language.Strings.{Items, no_item, raw, escape, is_raw, is_quote, Str, quoted, Escape, short, nul, byte, unicode, line_end, cr_lf, lone_cr, itself, single, surrogates}
use Rattle.json5_grammar.specs.Faults.Codes.{ErrorCode, EofParsingString, LineTerminatorInString, Shown}
use Rattle.json5_grammar.specs.Faults.Tokens.{InDigits, in_byte, in_first, in_second, AfterSurrogate, no_backslash, no_u, lone_backslash, digits_missing, second_missing, EscapeFault, digit_after_nul, escaped_digit, no_escape_digit, no_second_escape, unpaired, escape_ends, StringFault, raw_terminator, string_ends}
use Rattle.json5_grammar.specs.Model.Reading.{Place, here, inner, Read, got, bad, and_then}
use Rattle.json5_grammar.specs.Model.ReadTexts.{put, items, string}
use Rattle.json5_grammar.proofs.CommonLemmas.{same_char, same_items}
use Rattle.json5_grammar.proofs.Refusals.{Refuses, one_refusal, not_both, one_answer, refuses_after}
use Rattle.json5_grammar.proofs.EscapesRead.{escape_from, escape_read, escape_refused}

pub escape_head : {e v r : List ℕ} → Escape e v r → (t : List ℕ) × (e ≡ 92 ∷ t)
escape_head (short {c = c} h) = (c ∷ [], refl)
escape_head (nul h) = (48 ∷ [], refl)
escape_head (byte {a = a} {b = b} h) = (120 ∷ a ∷ b ∷ [], refl)
escape_head (unicode (single {h = h} d s)) = (117 ∷ h, refl)
escape_head (unicode (surrogates {h = h} {l = l} d e a b)) = (117 ∷ h ++ 92 ∷ 117 ∷ l, refl)
escape_head (line_end {c = c} t n) = (c ∷ [], refl)
escape_head cr_lf = (13 ∷ 10 ∷ [], refl)
escape_head (lone_cr h) = (13 ∷ [], refl)
escape_head (itself {c = c} h) = (c ∷ [], refl)

digits_head : {m : Bool} {e : List ℕ} (r : List ℕ) → InDigits m e → (t : List ℕ) × (e ++ r ≡ 92 ∷ t)
digits_head r (in_byte {d = d} e l) = (120 ∷ d ++ r, refl)
digits_head r (in_first {d = d} e l) = (117 ∷ d ++ r, refl)
digits_head r (in_second {h = h} {d = d} x s e l) = (117 ∷ (h ++ 92 ∷ 117 ∷ d) ++ r, refl)

after_head : {e : List ℕ} {c : ℕ} (r : List ℕ) → AfterSurrogate e c → (t : List ℕ) × (e ++ r ≡ 92 ∷ t)
after_head r (no_backslash {h = h} x s) = (117 ∷ h ++ r, refl)
after_head r (no_u {h = h} x s) = (117 ∷ (h ++ 92 ∷ []) ++ r, refl)

no_rest : (e : List ℕ) → (t : List ℕ) × (e ++ [] ≡ 92 ∷ t) → (t : List ℕ) × (e ≡ 92 ∷ t)
no_rest e (t, h) = (t, sym (append-nil e) ∙ h)

pub fault_head : {m : Bool} {x part : List ℕ} {code : Option ErrorCode} {place : Option (List ℕ)} {shown : Shown} → EscapeFault m x code place part shown → (t : List ℕ) × (x ≡ 92 ∷ t)
fault_head (digit_after_nul {c = c} r h) = (48 ∷ c ∷ r, refl)
fault_head (escaped_digit {c = c} r h) = (c ∷ r, refl)
fault_head (no_escape_digit c r i h) = digits_head (c ∷ r) i
fault_head (no_second_escape c r i h) = after_head (c ∷ r) i
fault_head (unpaired {h = h} {l = l} r x y s f) = (117 ∷ (h ++ 92 ∷ 117 ∷ l) ++ r, refl)
fault_head (escape_ends lone_backslash) = ([], refl)
fault_head {x = x} (escape_ends (digits_missing i)) = no_rest x (digits_head [] i)
fault_head {x = x} (escape_ends (second_missing i)) = no_rest x (after_head [] i)

pub raw_fails : (q c : ℕ) → is_raw q c ≡ true → ((c == q) ≡ false) × ((c == 92) ≡ false) × (((c == 10) || (c == 13)) ≡ false)
raw_fails q c h = (grind (arith, nat_tests), grind (arith, nat_tests), grind (arith, nat_tests))

pub quote_no_backslash : (q : ℕ) → is_quote q ≡ true → (92 == q) ≡ false
quote_no_backslash q h = grind (arith, nat_tests)

line_no_quote : (q c : ℕ) → is_quote q ≡ true → ((c == 10) || (c == 13)) ≡ true → ((c == q) ≡ false) × ((c == 92) ≡ false)
line_no_quote q c h k = (grind (arith, nat_tests), grind (arith, nat_tests))

pub put_none : (z : Read (List ℕ × Bool)) → z ≡ put [] true z
put_none (got a r) = refl
put_none (bad e p) = refl

pub put_raw : (c : ℕ) (u : List ℕ) (p : Bool) (z : Read (List ℕ × Bool)) → put (c ∷ []) true (put u p z) ≡ put (c ∷ u) p z
put_raw c u p (got a r) = refl
put_raw c u p (bad e x) = refl

pub put_escape : (v u : List ℕ) (p : Bool) (z : Read (List ℕ × Bool)) → put v false (put u p z) ≡ put (v ++ u) false z
put_escape v u p (got a r) = ap (λ y. got (y, false) r) (sym (append_assoc v u a.0))
put_escape v u p (bad e x) = refl

pub put_end : (u : List ℕ) (p : Bool) (r : List ℕ) → put u p (got ([], true) r) ≡ got (u, p) r
put_end u true r = ap (λ y. got (y, true) r) (append-nil u)
put_end u false r = ap (λ y. got (y, false) r) (append-nil u)

-- whole items are read, and then what follows them
pub items_through : {q : ℕ} (y : List ℕ) {s u : List ℕ} {p : Bool} → is_quote q ≡ true → Items q y s u p → (n : ℕ) → length (s ++ y) < n
    → (m : ℕ) × (length y < m) × (items n q (s ++ y) ≡ put u p (items m q y))
unfolding items
items_through {q = q} y k no_item n l = (n, l, put_none (items n q y))
items_through y k (raw {c = c} {s = s} h i) zero l = absurd (omega arith)
items_through {q = q} y k (raw {c = c} {s = s} {u = u} {escape_free = p} h i) (suc n) l =
    let f = raw_fails q c h in
    let j = items_through y k i n (omega arith) in
    (j.0, j.1, rw (f.0, f.1, f.2) (ap (put (c ∷ []) true) j.2 ∙ put_raw c u p (items j.0 q y)))
items_through y k (escape {e = e} {v = v} {s = s} x i) zero l = absurd (omega arith)
items_through {q = q} y k (escape {e = e} {v = v} {s = s} {u = u} {escape_free = p} x i) (suc n) l =
    let h = escape_head x in
    let a : (e ++ s) ++ y ≡ 92 ∷ (h.0 ++ (s ++ y)) = append_assoc e s y ∙ ap (λ z. z ++ (s ++ y)) h.1 in
    let b : escape_from true (92 ∷ h.0 ++ (s ++ y)) ≡ got v (s ++ y) = ap (λ z. escape_from true (z ++ (s ++ y))) (sym h.1) ∙ escape_read x in
    let j = items_through y k i n (omega (arith, ap length a, length-append h.0 (s ++ y))) in
    (j.0, j.1, ap (items (suc n) q) a ∙ rw (quote_no_backslash q k) (ap (λ z. and_then z (λ v y. put v false (items n q y))) b ∙ ap (put v false) j.2 ∙ put_escape v u p (items j.0 q y)))

at_quote : (m q : ℕ) (r : List ℕ) → length (q ∷ r) < m → items m q (q ∷ r) ≡ got ([], true) r
unfolding items
at_quote zero q r l = absurd (omega arith)
at_quote (suc m) q r l = rw (same_char q) refl

pub string_complete : {s u : List ℕ} {escape_free : Bool} (r : List ℕ) → Str s u escape_free → string (s ++ r) ≡ got (u, escape_free) r
unfolding string
string_complete r (quoted {q = q} {s = s} {u = u} {escape_free = escape_free} k i) =
    let j = items_through (q ∷ r) k (same_items (q ∷ r) refl i) (suc (length (s ++ q ∷ r))) (omega arith) in
    ap string (append_assoc (q ∷ s) (q ∷ []) r) ∙ j.2 ∙ ap (put u escape_free) (at_quote j.0 q r j.1) ∙ put_end u escape_free r

-- ---- refusals

at_line : (m q c : ℕ) (r : List ℕ) → length (c ∷ r) < m → is_quote q ≡ true → ((c == 10) || (c == 13)) ≡ true → items m q (c ∷ r) ≡ bad (Some LineTerminatorInString) (here (c ∷ r))
unfolding items
at_line zero q c r l k h = absurd (omega arith)
at_line (suc m) q c r l k h = let f = line_no_quote q c k h in rw (h, f.0, f.1) refl

at_end : (m q : ℕ) → items m q [] ≡ bad (Some EofParsingString) inner
unfolding items
at_end zero q = refl
at_end (suc m) q = refl

at_escape : (m q : ℕ) (x : List ℕ) (code : Option ErrorCode) (p : Place) → length x < m → is_quote q ≡ true → (t : List ℕ) × (x ≡ 92 ∷ t) → escape_from true x ≡ bad code p → items m q x ≡ bad code p
unfolding items
at_escape zero q x code p l k h e = absurd (omega arith)
at_escape (suc m) q x code p l k (t, h) e =
    ap (items (suc m) q) h ∙ rw (quote_no_backslash q k) (ap (λ z. and_then z (λ v y. put v false (items m q y))) (ap (escape_from true) (sym h) ∙ e))

-- after the quote and whole items
string_through : {q : ℕ} {s u : List ℕ} {p : Bool} (y : List ℕ) → is_quote q ≡ true → Items q y s u p → (m : ℕ) × (length y < m) × (string (q ∷ s ++ y) ≡ put u p (items m q y))
unfolding string
string_through {s = s} y k i = items_through y k i (suc (length (s ++ y))) (omega arith)

pub string_refused : {x b part : List ℕ} {code : Option ErrorCode} {place : Option (List ℕ)} {shown : Shown} → StringFault x code place b part shown → Refuses (string x) x code place
string_refused (raw_terminator {q = q} {c = c} {u = u} {escape_free = p} r k i h) =
    let j = string_through (c ∷ r) k i in
    (here (c ∷ r), j.2 ∙ ap (put u p) (at_line j.0 q c r j.1 k h), refl)
string_refused (string_ends {q = q} {s = s} {u = u} {escape_free = p} k i) =
    let j = string_through [] k i in
    (inner, ap string (sym (append-nil (q ∷ s))) ∙ j.2 ∙ ap (put u p) (at_end j.0 q), tt)
string_refused (StringFault.in_string_escape {q = q} {s = s} {u = u} {x = x} {escape_free = pl} {code = code} {place = place} k i f) =
    let j = string_through x k i in
    refuses_after (q ∷ s) x (escape_from true x) (string (q ∷ s ++ x)) code place (λ p e. j.2 ∙ ap (put u pl) (at_escape j.0 q x code p j.1 k (fault_head f) e)) (escape_refused f)

-- the code and the position are the only ones
pub one_string_fault : {x b c p q : List ℕ} {e f : Option ErrorCode} {pl pm : Option (List ℕ)} {h i : Shown} → StringFault x e pl b p h → StringFault x f pm c q i → (e ≡ f) × (pl ≡ pm)
one_string_fault {x = x} {e = e} {f = f} {pl = pl} {pm = pm} a b = one_refusal (string x) x e f pl pm (string_refused a) (string_refused b)

-- a whole string at the front has no fault
pub no_string_fault : {s u b p : List ℕ} {escape_free : Bool} {e : Option ErrorCode} {pl : Option (List ℕ)} {h : Shown} (r : List ℕ) → Str s u escape_free → StringFault (s ++ r) e pl b p h → ⊥
no_string_fault {s = s} {u = u} {escape_free = escape_free} {e = e} {pl = pl} r a f = not_both (string (s ++ r)) (s ++ r) r (u, escape_free) e pl (string_complete r a) (string_refused f)

-- one string at the front
pub one_string : {s u t v : List ℕ} {p q : Bool} (r y : List ℕ) → Str s u p → Str t v q → s ++ r ≡ t ++ y → (s ≡ t) × (u ≡ v) × (p ≡ q) × (r ≡ y)
one_string {s = s} {u = u} {t = t} {v = v} {p = p} {q = q} r y a b e =
    let k = one_answer string s r t y (u, p) (v, q) (string_complete r a) (string_complete y b) e in
    (k.0, ap (λ z. z.0) k.1, ap (λ z. z.1) k.1, k.2)
