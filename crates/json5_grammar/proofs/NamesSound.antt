-- What is read as a name is one, and what is refused has a fault of the table.
use Rattle.std.proofs.Common.{◌≡◌, ℕ, zero, suc, ◌<◌, Bool, true, false, ◌&&◌, ◌||◌, List, [], ◌∷◌, ◌++◌, length, refl, ap, sym, ◌∙◌, append_assoc, arith, ◌≢◌, subst, Option, Some, None}
use Rattle.std.specs.Prelude.{◌==◌}
use Rattle.std.proofs.lemmas.List.{append-nil}
use Rattle.json5_grammar.specs.Language.Characters.{is_identifier_start, is_identifier_part}
use Rattle.json5_grammar.specs.Language.Strings.{Unicode}
use Rattle.json5_grammar.specs.Language.Names.{NameItem, raw_name, escaped_name, NameParts, no_part, part, Ident, name, goes_on_name}
use Rattle.json5_grammar.specs.Faults.Codes.{ErrorCode, EofParsingIdentifier, ExpectedIdentifier, InvalidEscapeSequence, Shown, by_char, by_end, after_text}
use Rattle.json5_grammar.specs.Faults.Tokens.{NameFault, no_unicode_escape, escaped_no_start, escaped_no_part, name_ends, backslash_ends, no_item_yet, some_items}
use Rattle.json5_grammar.specs.Model.Reading.{Place, here, inner, Read, got, bad, and_then, IsAt}
use Rattle.json5_grammar.specs.Model.ReadTexts.{name_escape, unicode_at, fit, escaped_item, put, parts, identifier}
use Rattle.json5_grammar.proofs.CommonLemmas.{by_test, eq_from, neq_from, at_after}
use Rattle.json5_grammar.proofs.EscapesSound.{Blamed, UnicodeSound, unicode_sound}
use Rattle.json5_grammar.proofs.NamesRead.{unicode_head}
use Rattle.json5_grammar.proofs.StringsSound.{shorter}

-- what is wrong with an escape in a name, whose character is to pass the test
pub data NameItemFault (f : ℕ → Bool) : List ℕ → Option ErrorCode → Place → Type 0 where
  backslash : NameItemFault f (92 ∷ []) (Some EofParsingIdentifier) inner
  no_u : {c : ℕ} {r : List ℕ} → c ≢ 117 → NameItemFault f (92 ∷ c ∷ r) (Some InvalidEscapeSequence) (here (c ∷ r))
  misfit : {e : List ℕ} {n : ℕ} (r : List ℕ) → Unicode e n → f n ≡ false → NameItemFault f (e ++ r) (Some ExpectedIdentifier) (here (e ++ r))
  faulty : {t : List ℕ} {code : Option ErrorCode} {p : Place} → Blamed false t code p → NameItemFault f t code p

abbrev pub EscapedSound : (ℕ → Bool) → List ℕ → Read ℕ → Type 0
EscapedSound f x (got n y) = (e : List ℕ) × (x ≡ e ++ y) × Unicode e n × (f n ≡ true)
EscapedSound f x (bad code p) = NameItemFault f x code p

fit_sound : (f : ℕ → Bool) (x : List ℕ) (res : Read ℕ) → UnicodeSound false x res → EscapedSound f x (and_then res (fit f x))
fit_sound f x (got n y) (e, h, u) =
    by_test (EscapedSound f x) (f n) _ _ (λ t. (e, h, u, t))
    (λ t. subst (λ z. NameItemFault f z (Some ExpectedIdentifier) (here z)) (sym h) (misfit y u t))
fit_sound f x (bad code p) b = faulty b

pub escaped_sound : (f : ℕ → Bool) (r : List ℕ) → EscapedSound f (92 ∷ r) (and_then (name_escape (92 ∷ r) r) (fit f (92 ∷ r)))
unfolding name_escape
escaped_sound f [] = backslash
escaped_sound f (c ∷ r) =
    by_test (λ z. EscapedSound f (92 ∷ c ∷ r) (and_then z (fit f (92 ∷ c ∷ r)))) (c == 117) (unicode_at (92 ∷ c ∷ r) r) (bad (Some InvalidEscapeSequence) (here (c ∷ r)))
    (λ t. subst (λ z. EscapedSound f (92 ∷ z ∷ r) (and_then (unicode_at (92 ∷ z ∷ r) r) (fit f (92 ∷ z ∷ r)))) (sym (eq_from c 117 t)) (fit_sound f (92 ∷ 117 ∷ r) (unicode_at (92 ∷ 117 ∷ r) r) (unicode_sound false r)))
    (λ t. no_u (neq_from c 117 t))

-- where a name's items stop it
pub data PartFault : List ℕ → Option ErrorCode → Place → Type 0 where
  end : PartFault [] (Some EofParsingIdentifier) inner
  item : {t : List ℕ} {code : Option ErrorCode} {p : Place} → NameItemFault is_identifier_part t code p → PartFault t code p

-- the rest begins with a character that doesn't go on a name
abbrev pub Stopped : List ℕ → Type 0
Stopped r = (c : ℕ) × (z : List ℕ) × (r ≡ c ∷ z) × (goes_on_name c ≡ false)

abbrev pub PartsSound : List ℕ → Read (List ℕ × Bool) → Type 0
PartsSound y (got a r) = (s : List ℕ) × (y ≡ s ++ r) × NameParts s a.0 a.1 × Stopped r
PartsSound y (bad code p) = (s : List ℕ) × (t : List ℕ) × (u : List ℕ) × (escape_free : Bool) × (y ≡ s ++ t) × NameParts s u escape_free × PartFault t code p

after_item : {v : List ℕ} {c : ℕ} {p : Bool} (x y : List ℕ) (res : Read (List ℕ × Bool)) → x ≡ v ++ y → NameItem v c p → is_identifier_part c ≡ true → PartsSound y res → PartsSound x (put (c ∷ []) p res)
after_item {v = v} x y (got a r) e i h (s, g, k, st) = (v ++ s, e ∙ ap (λ z. v ++ z) g ∙ sym (append_assoc v s r), part i h k, st)
after_item {v = v} {c = c} {p = b} x y (bad code p) e i h (s, t, u, escape_free, g, k, f) = (v ++ s, t, c ∷ u, b && escape_free, e ∙ ap (λ z. v ++ z) g ∙ sym (append_assoc v s t), part i h k, f)

escape_more : (x : List ℕ) (res : Read ℕ) (k : List ℕ → Read (List ℕ × Bool)) → EscapedSound is_identifier_part x res → ((y : List ℕ) → length y < length x → PartsSound y (k y)) → PartsSound x (and_then res (λ n y. put (n ∷ []) false (k y)))
escape_more x (got n y) k (e, f, u, h) i = after_item x y (k y) f (escaped_name u) h (i y (shorter x e y f (unicode_head u)))
escape_more x (bad code p) k b i = ([], x, [], true, refl, no_part, item b)

stop_from : (c : ℕ) → (c == 92) ≡ false → is_identifier_part c ≡ false → goes_on_name c ≡ false
stop_from c a b = rw (a, b)

pub parts_sound : (n : ℕ) (y : List ℕ) → length y < n → PartsSound y (parts n y)
unfolding parts
parts_sound zero y l = absurd (omega arith)
parts_sound (suc n) [] l = ([], [], [], true, refl, no_part, end)
parts_sound (suc n) (c ∷ r) l =
    by_test (PartsSound (c ∷ r)) (c == 92) (escaped_item is_identifier_part (c ∷ r) r (parts n)) _
    (λ t. escape_more (c ∷ r) (and_then (name_escape (c ∷ r) r) (fit is_identifier_part (c ∷ r))) (parts n)
    (subst (λ z. EscapedSound is_identifier_part (z ∷ r) (and_then (name_escape (z ∷ r) r) (fit is_identifier_part (z ∷ r)))) (sym (eq_from c 92 t)) (escaped_sound is_identifier_part r))
    (λ y m. parts_sound n y (omega arith)))
    (λ t. by_test (PartsSound (c ∷ r)) (is_identifier_part c) _ _
    (λ h. after_item (c ∷ r) r (parts n r) refl (raw_name (neq_from c 92 t)) h (parts_sound n r (omega arith)))
    (λ h. ([], refl, no_part, (c, r, refl, stop_from c t h))))

-- ---- whole names

-- x has a fault of a name with this code at this position
pub record NameBlamed (x : List ℕ) (code : Option ErrorCode) (p : Place) : Type 0 where
  pub place : Option (List ℕ)
  pub before : List ℕ
  pub part : List ℕ
  pub shown : Shown
  pub fault : NameFault x code place before part shown
  pub is_at : IsAt x place p

abbrev pub NameSound : List ℕ → Read (List ℕ × Bool) → Type 0
NameSound x (got a r) = (s : List ℕ) × (x ≡ s ++ r) × Ident s a.0 a.1 × Stopped r
NameSound x (bad code p) = NameBlamed x code p

blame_first : {x : List ℕ} {code : Option ErrorCode} {p : Place} → NameItemFault is_identifier_start x code p → NameBlamed x code p
blame_first backslash = record { place = None; before = []; part = 92 ∷ []; shown = by_end; fault = backslash_ends no_item_yet; is_at = tt }
blame_first (no_u {c = c} {r = r} n) = record { place = Some (92 ∷ []); before = []; part = 92 ∷ c ∷ []; shown = by_char; fault = no_unicode_escape c r no_item_yet n; is_at = refl }
blame_first (misfit {e = e} r u n) = record { place = Some []; before = []; part = e; shown = by_char; fault = escaped_no_start r u n; is_at = refl }
blame_first {x = x} {p = p} (faulty b) = record { place = after_text [] b.place; before = []; part = b.part; shown = b.shown; fault = NameFault.in_name_escape no_item_yet b.fault; is_at = at_after [] x b.place p b.is_at }

blame_item : {s t u : List ℕ} {escape_free : Bool} {code : Option ErrorCode} {p : Place} → Ident s u escape_free → NameItemFault is_identifier_part t code p → NameBlamed (s ++ t) code p
blame_item {s = s} i backslash = record { place = None; before = []; part = s ++ 92 ∷ []; shown = by_end; fault = backslash_ends (some_items i); is_at = tt }
blame_item {s = s} i (no_u {c = c} {r = r} n) = record { place = Some (s ++ 92 ∷ []); before = s; part = 92 ∷ c ∷ []; shown = by_char; fault = no_unicode_escape c r (some_items i) n; is_at = sym (append_assoc s (92 ∷ []) (c ∷ r)) }
blame_item {s = s} i (misfit {e = e} r u n) = record { place = Some s; before = s; part = e; shown = by_char; fault = escaped_no_part r i u n; is_at = refl }
blame_item {s = s} {t = t} {p = p} i (faulty b) = record { place = after_text s b.place; before = s; part = b.part; shown = b.shown; fault = NameFault.in_name_escape (some_items i) b.fault; is_at = at_after s t b.place p b.is_at }

blame_part : {s t u : List ℕ} {escape_free : Bool} {code : Option ErrorCode} {p : Place} → Ident s u escape_free → PartFault t code p → NameBlamed (s ++ t) code p
blame_part {s = s} i end = subst (λ z. NameBlamed z (Some EofParsingIdentifier) inner) (sym (append-nil s)) (record { place = None; before = []; part = s; shown = by_end; fault = name_ends i; is_at = tt })
blame_part i (item f) = blame_item i f

from_start : {v : List ℕ} {c : ℕ} {p : Bool} (x y : List ℕ) (res : Read (List ℕ × Bool)) → x ≡ v ++ y → NameItem v c p → is_identifier_start c ≡ true → PartsSound y res → NameSound x (put (c ∷ []) p res)
from_start {v = v} x y (got a r) e i h (s, g, k, st) = (v ++ s, e ∙ ap (λ z. v ++ z) g ∙ sym (append_assoc v s r), name i h k, st)
from_start {v = v} x y (bad code p) e i h (s, t, u, escape_free, g, k, f) =
    subst (λ z. NameBlamed z code p) (append_assoc v s t ∙ ap (λ z. v ++ z) (sym g) ∙ sym e) (blame_part (name i h k) f)

start_escape : (x : List ℕ) (res : Read ℕ) (k : List ℕ → Read (List ℕ × Bool)) → EscapedSound is_identifier_start x res → ((y : List ℕ) → length y < length x → PartsSound y (k y)) → NameSound x (and_then res (λ n y. put (n ∷ []) false (k y)))
start_escape x (got n y) k (e, f, u, h) i = from_start x y (k y) f (escaped_name u) h (i y (shorter x e y f (unicode_head u)))
start_escape x (bad code p) k b i = blame_first b

pub name_sound : (c : ℕ) (r : List ℕ) → ((c == 92) || is_identifier_start c) ≡ true → NameSound (c ∷ r) (identifier (c ∷ r))
unfolding identifier
name_sound c r begins =
    by_test (NameSound (c ∷ r)) (c == 92) (escaped_item is_identifier_start (c ∷ r) r (parts (suc (length r)))) _
    (λ t. start_escape (c ∷ r) (and_then (name_escape (c ∷ r) r) (fit is_identifier_start (c ∷ r))) (parts (suc (length r)))
    (subst (λ z. EscapedSound is_identifier_start (z ∷ r) (and_then (name_escape (z ∷ r) r) (fit is_identifier_start (z ∷ r)))) (sym (eq_from c 92 t)) (escaped_sound is_identifier_start r))
    (λ y m. parts_sound (suc (length r)) y (omega arith)))
    (λ t. by_test (NameSound (c ∷ r)) (is_identifier_start c) _ _
    (λ h. from_start (c ∷ r) r (parts (suc (length r)) r) refl (raw_name (neq_from c 92 t)) h (parts_sound (suc (length r)) r (omega arith)))
    (λ h. absurd (neither (c == 92) (is_identifier_start c) begins t h)))
  where
    neither : (a b : Bool) → (a || b) ≡ true → a ≡ false → b ≡ false → ⊥
    neither true b e f g = absurd (cc)
    neither false b e f g = absurd (cc)
