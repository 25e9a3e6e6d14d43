-- A name is read as it is spelled, and a faulty one is refused with its code and position.
use Rattle.std.proofs.Common.{◌≡◌, ℕ, zero, suc, ◌<◌, Bool, true, false, ◌&&◌, ◌||◌, List, [], ◌∷◌, ◌++◌, length, refl, ap, sym, ◌∙◌, append_assoc, arith, ◌≢◌, Option, Some, length-append}
use Rattle.std.specs.Prelude.{◌==◌}
use Rattle.std.proofs.lemmas.List.{append-nil}
use Rattle.json5_grammar.specs.Language.Characters.{is_identifier_start, is_identifier_part}
use Rattle.json5_grammar.specs.Language.Strings.{Unicode, Escape, unicode}
use Rattle.json5_grammar.specs.Language.Names.{NameItem, raw_name, escaped_name, NameParts, no_part, part, Ident, name, goes_on_name}
use Rattle.json5_grammar.specs.Faults.Codes.{ErrorCode, EofParsingIdentifier, ExpectedIdentifier, InvalidEscapeSequence, Shown}
use Rattle.json5_grammar.specs.Faults.Tokens.{NameFault, no_unicode_escape, escaped_no_start, escaped_no_part, name_ends, backslash_ends, Named, no_item_yet, some_items}
use Rattle.json5_grammar.specs.Model.Reading.{Place, here, inner, Read, got, bad, and_then}
use Rattle.json5_grammar.specs.Model.ReadTexts.{one_char, name_escape, fit, escaped_item, put, parts, identifier}
use Rattle.json5_grammar.proofs.CommonLemmas.{not_eq}
use Rattle.json5_grammar.proofs.Refusals.{Refuses, one_refusal, not_both, one_answer, refuses_after}
use Rattle.json5_grammar.proofs.EscapesRead.{escape_from, unicode_read, escape_refused}
use Rattle.json5_grammar.proofs.StringsRead.{escape_head, fault_head, put_none, put_raw, put_escape, put_end}

pub unicode_head : {e : List ℕ} {n : ℕ} → Unicode e n → (t : List ℕ) × (e ≡ 92 ∷ t)
unicode_head {e = e} {n = n} u = head (unicode u)
  where
    head : Escape e (n ∷ []) [] → (t : List ℕ) × (e ≡ 92 ∷ t)
    head x = escape_head x

got_char : (z : Read ℕ) (n : ℕ) (r : List ℕ) → and_then z one_char ≡ got (n ∷ []) r → z ≡ got n r
got_char (got m y) n r e = cc
got_char (bad c p) n r e = absurd (cc)

bad_char : (z : Read ℕ) (c : Option ErrorCode) (p : Place) → and_then z one_char ≡ bad c p → z ≡ bad c p
bad_char (got m y) c p e = absurd (cc)
bad_char (bad d q) c p e = cc

-- an escape in a name, read from its backslash on
item_read : {e : List ℕ} {n : ℕ} (f : ℕ → Bool) (k : List ℕ → Read (List ℕ × Bool)) (t z : List ℕ) → Unicode e n → f n ≡ true → e ++ z ≡ 92 ∷ t → escaped_item f (92 ∷ t) t k ≡ put (n ∷ []) false (k z)
item_read {n = n} f k t z u h e =
    let a : name_escape (92 ∷ t) t ≡ got n z = got_char (name_escape (92 ∷ t) t) n z (ap (escape_from false) (sym e) ∙ unicode_read false z u) in
    ap (λ w. and_then (and_then w (fit f (92 ∷ t))) (λ n y. put (n ∷ []) false (k y))) a ∙ rw h

item_misfit : {e : List ℕ} {n : ℕ} (f : ℕ → Bool) (k : List ℕ → Read (List ℕ × Bool)) (t z : List ℕ) → Unicode e n → f n ≡ false → e ++ z ≡ 92 ∷ t → escaped_item f (92 ∷ t) t k ≡ bad (Some ExpectedIdentifier) (here (92 ∷ t))
item_misfit {n = n} f k t z u h e =
    let a : name_escape (92 ∷ t) t ≡ got n z = got_char (name_escape (92 ∷ t) t) n z (ap (escape_from false) (sym e) ∙ unicode_read false z u) in
    ap (λ w. and_then (and_then w (fit f (92 ∷ t))) (λ n y. put (n ∷ []) false (k y))) a ∙ rw h

item_bad : (f : ℕ → Bool) (k : List ℕ → Read (List ℕ × Bool)) (t : List ℕ) (c : Option ErrorCode) (p : Place) → name_escape (92 ∷ t) t ≡ bad c p → escaped_item f (92 ∷ t) t k ≡ bad c p
item_bad f k t c p a = ap (λ w. and_then (and_then w (fit f (92 ∷ t))) (λ n y. put (n ∷ []) false (k y))) a

head_of : (e z : List ℕ) → (h : (t : List ℕ) × (e ≡ 92 ∷ t)) → e ++ z ≡ 92 ∷ (h.0 ++ z)
head_of e z (t, h) = ap (λ w. w ++ z) h

-- a step over one item
part_step : {v : List ℕ} {c : ℕ} {p : Bool} (n : ℕ) (z : List ℕ) → NameItem v c p → is_identifier_part c ≡ true → length (v ++ z) < suc n → (length z < n) × (parts (suc n) (v ++ z) ≡ put (c ∷ []) p (parts n z))
unfolding parts
part_step n z (raw_name {c = c} ne) h l = (omega arith, rw (not_eq c 92 ne, h) refl)
part_step n z (escaped_name {e = e} {n = c} u) h l =
    let w = unicode_head u in
    let a : e ++ z ≡ 92 ∷ (w.0 ++ z) = head_of e z w in
    (omega (arith, ap length a, length-append w.0 z), ap (parts (suc n)) a ∙ item_read is_identifier_part (parts n) (w.0 ++ z) z u h a)

put_item : (c : ℕ) (u : List ℕ) (p q : Bool) (z : Read (List ℕ × Bool)) → put (c ∷ []) p (put u q z) ≡ put (c ∷ u) (p && q) z
put_item c u true q z = put_raw c u q z
put_item c u false q z = put_escape (c ∷ []) u q z

pub parts_through : (y : List ℕ) {s u : List ℕ} {p : Bool} → NameParts s u p → (n : ℕ) → length (s ++ y) < n → (m : ℕ) × (length y < m) × (parts n (s ++ y) ≡ put u p (parts m y))
parts_through y no_part n l = (n, l, put_none (parts n y))
parts_through y (part x h i) zero l = absurd (omega arith)
parts_through y (part {s = s} {v = v} {u = u} {c = c} {p = p} {escape_free = q} x h i) (suc n) l =
    let a : (v ++ s) ++ y ≡ v ++ (s ++ y) = append_assoc v s y in
    let k = part_step n (s ++ y) x h (omega (arith, ap length a)) in
    let j = parts_through y i n k.0 in
    (j.0, j.1, ap (parts (suc n)) a ∙ k.1 ∙ ap (put (c ∷ []) p) j.2 ∙ put_item c u p q (parts j.0 y))

start_step : {v : List ℕ} {c : ℕ} {p : Bool} (z : List ℕ) → NameItem v c p → is_identifier_start c ≡ true → (n : ℕ) × (length z < n) × (identifier (v ++ z) ≡ put (c ∷ []) p (parts n z))
unfolding identifier
start_step z (raw_name {c = c} ne) h = (suc (length z), omega arith, rw (not_eq c 92 ne, h) refl)
start_step z (escaped_name {e = e} {n = c} u) h =
    let w = unicode_head u in
    let a : e ++ z ≡ 92 ∷ (w.0 ++ z) = head_of e z w in
    (suc (length (w.0 ++ z)), omega (arith, length-append w.0 z), ap identifier a ∙ item_read is_identifier_start (parts (suc (length (w.0 ++ z)))) (w.0 ++ z) z u h a)

-- whole items are read, and then what follows them
pub name_through : {s u : List ℕ} {p : Bool} (y : List ℕ) → Ident s u p → (m : ℕ) × (length y < m) × (identifier (s ++ y) ≡ put u p (parts m y))
name_through y (name {v = v} {s = s} {u = u} {c = c} {p = p} {escape_free = q} x h i) =
    let k = start_step (s ++ y) x h in
    let j = parts_through y i k.0 k.1 in
    (j.0, j.1, ap identifier (append_assoc v s y) ∙ k.2 ∙ ap (put (c ∷ []) p) j.2 ∙ put_item c u p q (parts j.0 y))

stop_fails : (c : ℕ) → goes_on_name c ≡ false → ((c == 92) ≡ false) × (is_identifier_part c ≡ false)
stop_fails c h = by_parts (is_identifier_part c) (c == 92) h
  where
    by_parts : (a b : Bool) → (a || b) ≡ false → (b ≡ false) × (a ≡ false)
    by_parts true b h = absurd (cc)
    by_parts false b h = (h, refl)

at_stop : (m c : ℕ) (r : List ℕ) → length (c ∷ r) < m → goes_on_name c ≡ false → parts m (c ∷ r) ≡ got ([], true) (c ∷ r)
unfolding parts
at_stop zero c r l h = absurd (omega arith)
at_stop (suc m) c r l h = let f = stop_fails c h in rw (f.0, f.1) refl

pub name_complete : {s u : List ℕ} {escape_free : Bool} (c : ℕ) (r : List ℕ) → Ident s u escape_free → goes_on_name c ≡ false → identifier (s ++ c ∷ r) ≡ got (u, escape_free) (c ∷ r)
name_complete {u = u} {escape_free = escape_free} c r i h =
    let j = name_through (c ∷ r) i in
    j.2 ∙ ap (put u escape_free) (at_stop j.0 c r j.1 h) ∙ put_end u escape_free (c ∷ r)

-- ---- refusals

parts_bad : (m : ℕ) (t : List ℕ) (c : Option ErrorCode) (p : Place) → length (92 ∷ t) < m → ((k : List ℕ → Read (List ℕ × Bool)) → escaped_item is_identifier_part (92 ∷ t) t k ≡ bad c p) → parts m (92 ∷ t) ≡ bad c p
unfolding parts
parts_bad zero t c p l h = absurd (omega arith)
parts_bad (suc m) t c p l h = h (parts m)

start_bad : (t : List ℕ) (c : Option ErrorCode) (p : Place) → ((k : List ℕ → Read (List ℕ × Bool)) → escaped_item is_identifier_start (92 ∷ t) t k ≡ bad c p) → identifier (92 ∷ t) ≡ bad c p
unfolding identifier
start_bad t c p h = h (parts (suc (length t)))

-- after whole items a backslash that no name goes on with
named_bad : {s : List ℕ} (t : List ℕ) (c : Option ErrorCode) (p : Place) → Named s → name_escape (92 ∷ t) t ≡ bad c p → identifier (s ++ 92 ∷ t) ≡ bad c p
named_bad t c p no_item_yet h = start_bad t c p (λ k. item_bad is_identifier_start k t c p h)
named_bad t c p (some_items {u = u} {escape_free = escape_free} i) h =
    let j = name_through (92 ∷ t) i in
    j.2 ∙ ap (put u escape_free) (parts_bad j.0 t c p j.1 (λ k. item_bad is_identifier_part k t c p h))

named_faulty : {s : List ℕ} (x : List ℕ) (c : Option ErrorCode) (p : Place) → Named s → (t : List ℕ) × (x ≡ 92 ∷ t) → escape_from false x ≡ bad c p → identifier (s ++ x) ≡ bad c p
named_faulty {s = s} x c p k (t, h) e = ap (λ z. identifier (s ++ z)) h ∙ named_bad t c p k (bad_char (name_escape (92 ∷ t) t) c p (ap (escape_from false) (sym h) ∙ e))

at_end : (m : ℕ) → parts m [] ≡ bad (Some EofParsingIdentifier) inner
unfolding parts
at_end zero = refl
at_end (suc m) = refl

no_u : (c : ℕ) (b r : List ℕ) → c ≢ 117 → name_escape b (c ∷ r) ≡ bad (Some InvalidEscapeSequence) (here (c ∷ r))
unfolding name_escape
no_u c b r n = rw (not_eq c 117 n) refl

cut_off : (b : List ℕ) → name_escape b [] ≡ bad (Some EofParsingIdentifier) inner
unfolding name_escape
cut_off b = refl

pub name_refused : {x b part : List ℕ} {code : Option ErrorCode} {place : Option (List ℕ)} {shown : Shown} → NameFault x code place b part shown → Refuses (identifier x) x code place
name_refused (NameFault.in_name_escape {t = t} {x = x} {code = code} {place = place} k f) =
    refuses_after t x (escape_from false x) (identifier (t ++ x)) code place (λ p e. named_faulty x code p k (fault_head f) e) (escape_refused f)
name_refused (no_unicode_escape {t = t} c r k n) =
    (here (c ∷ r), named_bad (c ∷ r) _ _ k (no_u c (92 ∷ c ∷ r) r n), sym (append_assoc t (92 ∷ []) (c ∷ r)))
name_refused (escaped_no_start {e = e} r u n) =
    let w = unicode_head u in
    let a : e ++ r ≡ 92 ∷ (w.0 ++ r) = head_of e r w in
    (here (92 ∷ (w.0 ++ r)), ap identifier a ∙ start_bad (w.0 ++ r) _ _ (λ k. item_misfit is_identifier_start k (w.0 ++ r) r u n a), a)
name_refused (escaped_no_part {t = t} {u = v} {e = e} {escape_free = escape_free} r i u n) =
    let w = unicode_head u in
    let a : e ++ r ≡ 92 ∷ (w.0 ++ r) = head_of e r w in
    let j = name_through (92 ∷ (w.0 ++ r)) i in (
      here (92 ∷ (w.0 ++ r)),
      ap (λ z. identifier (t ++ z)) a ∙ j.2 ∙ ap (put v escape_free) (parts_bad j.0 (w.0 ++ r) _ _ j.1 (λ k. item_misfit is_identifier_part k (w.0 ++ r) r u n a)),
      ap (λ z. t ++ z) a,
    )
name_refused (name_ends {t = t} {u = u} {escape_free = escape_free} i) =
    let j = name_through [] i in
    (inner, ap identifier (sym (append-nil t)) ∙ j.2 ∙ ap (put u escape_free) (at_end j.0), tt)
name_refused (backslash_ends k) = (inner, named_bad [] _ _ k (cut_off (92 ∷ [])), tt)

-- the code and the position are the only ones
pub one_name_fault : {x b c p q : List ℕ} {e f : Option ErrorCode} {pl pm : Option (List ℕ)} {h i : Shown} → NameFault x e pl b p h → NameFault x f pm c q i → (e ≡ f) × (pl ≡ pm)
one_name_fault {x = x} {e = e} {f = f} {pl = pl} {pm = pm} a b = one_refusal (identifier x) x e f pl pm (name_refused a) (name_refused b)

-- a whole name at the front has no fault
pub no_name_fault : {s u b p : List ℕ} {escape_free : Bool} {e : Option ErrorCode} {pl : Option (List ℕ)} {h : Shown} (c : ℕ) (r : List ℕ) → Ident s u escape_free → goes_on_name c ≡ false → NameFault (s ++ c ∷ r) e pl b p h → ⊥
no_name_fault {s = s} {u = u} {escape_free = escape_free} {e = e} {pl = pl} c r a g f = not_both (identifier (s ++ c ∷ r)) (s ++ c ∷ r) (c ∷ r) (u, escape_free) e pl (name_complete c r a g) (name_refused f)

-- one name at the front
pub one_name : {s u t v : List ℕ} {p q : Bool} (c d : ℕ) (r y : List ℕ) → Ident s u p → goes_on_name c ≡ false → Ident t v q → goes_on_name d ≡ false → s ++ c ∷ r ≡ t ++ d ∷ y → (s ≡ t) × (u ≡ v) × (p ≡ q) × (c ∷ r ≡ d ∷ y)
one_name {s = s} {u = u} {t = t} {v = v} {p = p} {q = q} c d r y a g b h e =
    let k = one_answer identifier s (c ∷ r) t (d ∷ y) (u, p) (v, q) (name_complete c r a g) (name_complete d y b h) e in
    (k.0, ap (λ z. z.0) k.1, ap (λ z. z.1) k.1, k.2)
