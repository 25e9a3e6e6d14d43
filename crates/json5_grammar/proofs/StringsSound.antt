-- What is read as a string is one, and what is refused has a fault of the table.
use Rattle.std.proofs.Common.{◌≡◌, ℕ, zero, suc, ◌<◌, Bool, true, false, ◌||◌, List, [], ◌∷◌, ◌++◌, length, refl, ap, sym, ◌∙◌, append_assoc, arith, subst, Option, Some, None, length-append}
use Rattle.std.specs.Prelude.{◌==◌}
use Rattle.std.proofs.lemmas.Bool.Decides.{nat_tests}
use Rattle.std.proofs.lemmas.List.{append-nil}
use Rattle.json5_grammar.specs.Language.Strings.{Items, no_item, raw, escape, is_raw, is_quote, Str, quoted, Escape}
use Rattle.json5_grammar.specs.Faults.Codes.{ErrorCode, EofParsingString, LineTerminatorInString, Shown, by_char, by_end, after_text}
use Rattle.json5_grammar.specs.Faults.Tokens.{StringFault, raw_terminator, string_ends}
use Rattle.json5_grammar.specs.Model.Reading.{Place, here, inner, Read, got, bad, and_then, IsAt}
use Rattle.json5_grammar.specs.Model.ReadTexts.{escape_at, put, items, string}
use Rattle.json5_grammar.proofs.CommonLemmas.{by_test, eq_from, at_after, same_items}
use Rattle.json5_grammar.proofs.EscapesSound.{Blamed, EscapeSound, escape_sound}
use Rattle.json5_grammar.proofs.StringsRead.{escape_head}

-- what stops a string at the front of the text
pub data ItemFault : List ℕ → Option ErrorCode → Place → Type 0 where
  line : {c : ℕ} {r : List ℕ} → ((c == 10) || (c == 13)) ≡ true → ItemFault (c ∷ r) (Some LineTerminatorInString) (here (c ∷ r))
  end : ItemFault [] (Some EofParsingString) inner
  faulty : {t : List ℕ} {code : Option ErrorCode} {p : Place} → Blamed true t code p → ItemFault t code p

abbrev pub ItemsSound : ℕ → List ℕ → Read (List ℕ × Bool) → Type 0
ItemsSound q y (got a r) = (s : List ℕ) × (y ≡ s ++ q ∷ r) × Items q (q ∷ r) s a.0 a.1
ItemsSound q y (bad code p) = (s : List ℕ) × (t : List ℕ) × (u : List ℕ) × (escape_free : Bool) × (y ≡ s ++ t) × Items q t s u escape_free × ItemFault t code p

raw_from : (q c : ℕ) → (c == q) ≡ false → (c == 92) ≡ false → ((c == 10) || (c == 13)) ≡ false → is_raw q c ≡ true
raw_from q c a b d = grind (arith, nat_tests)

raw_more : (q c : ℕ) (y : List ℕ) (res : Read (List ℕ × Bool)) → is_raw q c ≡ true → ItemsSound q y res → ItemsSound q (c ∷ y) (put (c ∷ []) true res)
raw_more q c y (got a r) h (s, e, i) = (c ∷ s, ap (λ z. c ∷ z) e, raw h i)
raw_more q c y (bad code p) h (s, t, u, escape_free, e, i, f) = (c ∷ s, t, c ∷ u, escape_free, ap (λ z. c ∷ z) e, raw h i, f)

after_escape : (q : ℕ) (x y e v : List ℕ) (res : Read (List ℕ × Bool)) → x ≡ e ++ y → Escape e v y → ItemsSound q y res → ItemsSound q x (put v false res)
after_escape q x y e v (got a r) f k (s, g, i) =
    (e ++ s, f ∙ ap (λ z. e ++ z) g ∙ sym (append_assoc e s (q ∷ r)), escape (subst (Escape e v) g k) i)
after_escape q x y e v (bad code p) f k (s, t, u, escape_free, g, i, h) =
    (e ++ s, t, v ++ u, false, f ∙ ap (λ z. e ++ z) g ∙ sym (append_assoc e s t), escape (subst (Escape e v) g k) i, h)

pub shorter : (x e y : List ℕ) → x ≡ e ++ y → (t : List ℕ) × (e ≡ 92 ∷ t) → length y < length x
shorter x e y f (t, h) = let k : x ≡ 92 ∷ (t ++ y) = f ∙ ap (λ z. z ++ y) h in omega (arith, ap length k, length-append t y)

escape_more : (q : ℕ) (x : List ℕ) (res : Read (List ℕ)) (k : List ℕ → Read (List ℕ × Bool)) → EscapeSound x res → ((y : List ℕ) → length y < length x → ItemsSound q y (k y)) → ItemsSound q x (and_then res (λ v y. put v false (k y)))
escape_more q x (got v y) k (e, f, h) i = after_escape q x y e v (k y) f h (i y (shorter x e y f (escape_head h)))
escape_more q x (bad code p) k b i = ([], x, [], true, refl, no_item, faulty b)

pub items_sound : (n q : ℕ) (y : List ℕ) → length y < n → ItemsSound q y (items n q y)
unfolding items
items_sound zero q y l = absurd (omega arith)
items_sound (suc n) q [] l = ([], [], [], true, refl, no_item, end)
items_sound (suc n) q (c ∷ r) l =
    by_test (ItemsSound q (c ∷ r)) (c == q) _ _ (λ t. ([], ap (λ z. z ∷ r) (eq_from c q t), no_item))
    (λ not_q. by_test (ItemsSound q (c ∷ r)) (c == 92) _ _
    (λ t. escape_more q (c ∷ r) (escape_at (c ∷ r) r) (items n q) (subst (λ z. EscapeSound (z ∷ r) (escape_at (z ∷ r) r)) (sym (eq_from c 92 t)) (escape_sound r)) (λ y m. items_sound n q y (omega arith)))
    (λ not_slash. by_test (ItemsSound q (c ∷ r)) ((c == 10) || (c == 13)) _ _
    (λ t. ([], c ∷ r, [], true, refl, no_item, line t))
    (λ no_line. raw_more q c r (items n q r) (raw_from q c not_q not_slash no_line) (items_sound n q r (omega arith)))))

-- x has a fault of a string with this code at this position
pub record StringBlamed (x : List ℕ) (code : Option ErrorCode) (p : Place) : Type 0 where
  pub place : Option (List ℕ)
  pub before : List ℕ
  pub part : List ℕ
  pub shown : Shown
  pub fault : StringFault x code place before part shown
  pub is_at : IsAt x place p

abbrev pub StringSound : List ℕ → Read (List ℕ × Bool) → Type 0
StringSound x (got a r) = (s : List ℕ) × (x ≡ s ++ r) × Str s a.0 a.1
StringSound x (bad code p) = StringBlamed x code p

-- a string whose items t end at its fault
blame : {q : ℕ} {s t u : List ℕ} {escape_free : Bool} {code : Option ErrorCode} {p : Place} → is_quote q ≡ true → Items q t s u escape_free → ItemFault t code p → StringBlamed (q ∷ s ++ t) code p
blame {q = q} {s = s} k i (line {c = c} {r = r} h) = record { place = Some (q ∷ s); before = q ∷ s; part = c ∷ []; shown = by_char; fault = raw_terminator r k i h; is_at = refl }
blame {q = q} {s = s} k i end = subst (λ z. StringBlamed z (Some EofParsingString) inner) (sym (append-nil (q ∷ s))) (record { place = None; before = []; part = q ∷ s; shown = by_end; fault = string_ends k i; is_at = tt })
blame {q = q} {s = s} k i (faulty {t = t} {p = p} b) = record { place = after_text (q ∷ s) b.place; before = q ∷ s; part = b.part; shown = b.shown; fault = StringFault.in_string_escape k i b.fault; is_at = at_after (q ∷ s) t b.place p b.is_at }

from_items : (q : ℕ) (y : List ℕ) (res : Read (List ℕ × Bool)) → is_quote q ≡ true → ItemsSound q y res → StringSound (q ∷ y) res
from_items q y (got a r) k (s, e, i) = (q ∷ s ++ q ∷ [], ap (λ z. q ∷ z) e ∙ sym (append_assoc (q ∷ s) (q ∷ []) r), quoted k (same_items (q ∷ []) refl i))
from_items q y (bad code p) k (s, t, u, escape_free, e, i, f) = subst (λ z. StringBlamed (q ∷ z) code p) (sym e) (blame k i f)

pub string_sound : (q : ℕ) (y : List ℕ) → is_quote q ≡ true → StringSound (q ∷ y) (string (q ∷ y))
unfolding string
string_sound q y k = from_items q y (items (suc (length y)) q y) k (items_sound (suc (length y)) q y (omega arith))
