-- An array from its front: it is opened, its elements are read one after another, and it is closed.
use Rattle.std.proofs.Common.{◌≡◌, ℕ, true, false, List, [], ◌∷◌, ◌++◌, refl, ap, sym, ◌∙◌, append_assoc, inl, inr}
use Rattle.std.proofs.lemmas.Bool.{both_ways}
use Rattle.json5_grammar.specs.Language.Blanks.{Blanks, Gap, is_solid, Solid}
use Rattle.json5_grammar.specs.Language.Trees.{Tree, Trees, array, no_more, more}
use Rattle.json5_grammar.specs.Faults.{begins_value}
use Rattle.json5_grammar.specs.Language.Values.{no_last_comma, last_comma, Val, is_empty_array, is_array, ElementList, last, next, Stops, Reads}
use Rattle.json5_grammar.specs.Model.Collections.{IsSign, Opens, Tail}
use Rattle.json5_grammar.proofs.CommonLemmas.{first_same, rest_same}
use Rattle.json5_grammar.proofs.BlanksRead.{begins_solid, printable_solid}
use Rattle.json5_grammar.proofs.BlanksSound.{Blanks-append, one_gap, gap_blanks}
use Rattle.json5_grammar.proofs.CharacterClasses.{comma_ends_values, bracket_ends_values}
use Rattle.json5_grammar.proofs.ValueHeads.{val_head, value_solid, stops_blanks}
use Rattle.json5_grammar.proofs.ValuesRead.{regroup}

-- ---- signs

pub comma_solid : is_solid 44 ≡ true
comma_solid = printable_solid 44 refl refl

pub bracket_solid : is_solid 93 ≡ true
bracket_solid = printable_solid 93 refl refl

pub opening_solid : is_solid 91 ≡ true
opening_solid = printable_solid 91 refl refl

-- one sign goes on, and one rest is left
pub one_sign : (c d : ℕ) (x r q : List ℕ) → is_solid c ≡ true → is_solid d ≡ true → IsSign c x r → IsSign d x q → (c ≡ d) × (r ≡ q)
one_sign c d x r q h k a b =
    let g = one_gap a.front (c ∷ r) b.front (d ∷ q) (Gap.blanks a.blank) (begins_solid c r h) (Gap.blanks b.blank) (begins_solid d q k) (sym a.split ∙ b.split) in
    (sym (first_same d c q r g.1), sym (rest_same d c q r g.1))

-- where a sign goes on that begins no value, no phrase does
pub sign_no_value : (c : ℕ) (x r q : List ℕ) (t : Tree) → is_solid c ≡ true → begins_value c ≡ false → IsSign c x q → Reads x t r → ⊥
sign_no_value c x r q t h n a p =
    let head = val_head p.value in
    let g = one_gap a.front (c ∷ q) p.front (p.phrase ++ r) (Gap.blanks a.blank) (begins_solid c q h) (Gap.blanks p.blank) (value_solid r head) (sym a.split ∙ p.split) in
    let e : head.char ≡ c = first_same head.char c (head.more ++ r) q (sym (ap (λ z. z ++ r) head.is) ∙ g.1) in
    both_ways (begins_value head.char) (ap begins_value e ∙ n) head.begins

-- after a gap comes the sign
pub sign_here : (c : ℕ) (x w r : List ℕ) → x ≡ w ++ c ∷ r → Gap w (c ∷ r) → IsSign c x r
sign_here c x w r e g = record { front = w; split = e; blank = gap_blanks c r g }

-- blanks are allowed before a sign
pub sign_after : (c : ℕ) (w x r : List ℕ) → Blanks w → IsSign c x r → IsSign c (w ++ x) r
sign_after c w x r b a = record { front = w ++ a.front; split = ap (λ z. w ++ z) a.split ∙ sym (append_assoc w a.front (c ∷ r)); blank = Blanks-append b a.blank }

-- after the gap the sign comes without blanks
pub sign_found : (c : ℕ) (x w y r : List ℕ) → is_solid c ≡ true → x ≡ w ++ y → Gap w y → Solid y → IsSign c x r → y ≡ c ∷ r
sign_found c x w y r h e g s a = (one_gap a.front (c ∷ r) w y (Gap.blanks a.blank) (begins_solid c r h) g s (sym a.split ∙ e)).1

-- blanks are allowed before a phrase
pub reads_after : (w x r : List ℕ) (t : Tree) → Blanks w → Reads x t r → Reads (w ++ x) t r
reads_after w x r t b p = record {
  front = w ++ p.front;
  phrase = p.phrase;
  split = ap (λ z. w ++ z) p.split ∙ sym (append_assoc w p.front (p.phrase ++ r));
  blank = Blanks-append b p.blank;
  value = p.value;
  stops = p.stops;
}

-- after the gap before a phrase it begins
pub phrase_found : (x w y r : List ℕ) (t : Tree) → x ≡ w ++ y → Gap w y → Solid y → (p : Reads x t r) → y ≡ p.phrase ++ r
phrase_found x w y r t e g s p = (one_gap p.front (p.phrase ++ r) w y (Gap.blanks p.blank) (value_solid r (val_head p.value)) g s (sym p.split ∙ e)).1

-- and comes without them
pub reads_found : (x w y r : List ℕ) (t : Tree) → x ≡ w ++ y → Gap w y → Solid y → Reads x t r → Reads y t r
reads_found x w y r t e g s p = record {
  front = [];
  phrase = p.phrase;
  split = phrase_found x w y r t e g s p;
  blank = Blanks.empty;
  value = p.value;
  stops = p.stops;
}

-- ---- arrays from the front

-- elements may follow the comma that is due
pub tail_comma : (ts : Trees) (x y r : List ℕ) → IsSign 44 x y → Tail ts false y r → Tail ts true x r
tail_comma no_more x y r s c = inr (y, s, c)
tail_comma (more t ts) x y r s (z, e, tl) = (z, (y, s, e), tl)

-- elements and the bracket are read one after another
pub members_tail : {m : List ℕ} {ts : Trees} (r : List ℕ) → ElementList m ts → Tail ts false (m ++ 93 ∷ r) r
members_tail r (last {w = w} {s = s} {v = v} bw vs bv no_last_comma) = (
  v ++ 93 ∷ r,
  record { front = w; phrase = s; split = regroup w s v [] (93 ∷ r); blank = bw; value = vs; stops = stops_blanks s 93 r bv bracket_ends_values },
  inl (record { front = v; split = refl; blank = bv }),
)
members_tail r (last {w = w} {s = s} {v = v} bw vs bv (last_comma {w = u} bu)) = (
  v ++ 44 ∷ (u ++ 93 ∷ r),
  record { front = w; phrase = s; split = regroup w s v (44 ∷ u) (93 ∷ r); blank = bw; value = vs; stops = stops_blanks s 44 (u ++ 93 ∷ r) bv comma_ends_values },
  inr (u ++ 93 ∷ r, record { front = v; split = refl; blank = bv }, record { front = u; split = refl; blank = bu }),
)
members_tail r (next {w = w} {s = s} {v = v} {m = m} {ts = ts} bw vs bv ms) = (
  v ++ 44 ∷ (m ++ 93 ∷ r),
  record { front = w; phrase = s; split = regroup w s v (44 ∷ m) (93 ∷ r); blank = bw; value = vs; stops = stops_blanks s 44 (m ++ 93 ∷ r) bv comma_ends_values },
  tail_comma ts (v ++ 44 ∷ (m ++ 93 ∷ r)) (m ++ 93 ∷ r) r (record { front = v; split = refl; blank = bv }) (members_tail r ms),
)

-- what is read one after another are elements and the bracket
pub tail_members : (t : Tree) (ts : Trees) (x r : List ℕ) → Tail (more t ts) false x r → (m : List ℕ) × (x ≡ m ++ 93 ∷ r) × ElementList m (more t ts)
tail_members t no_more x r (y, e, inl c) = (
  e.front ++ (e.phrase ++ (c.front ++ [])),
  e.split ∙ ap (λ z. e.front ++ (e.phrase ++ z)) c.split ∙ sym (regroup e.front e.phrase c.front [] (93 ∷ r)),
  last e.blank e.value c.blank no_last_comma,
)
tail_members t no_more x r (y, e, inr (z, s, c)) = (
  e.front ++ (e.phrase ++ (s.front ++ 44 ∷ c.front)),
  e.split ∙ ap (λ z. e.front ++ (e.phrase ++ z)) (s.split ∙ ap (λ z. s.front ++ 44 ∷ z) c.split) ∙ sym (regroup e.front e.phrase s.front (44 ∷ c.front) (93 ∷ r)),
  last e.blank e.value s.blank (last_comma c.blank),
)
tail_members t (more u us) x r (y, e, (z, (q, s, f), tl)) =
    let (m, k, ms) = tail_members u us q r (z, f, tl) in (
      e.front ++ (e.phrase ++ (s.front ++ 44 ∷ m)),
      e.split ∙ ap (λ z. e.front ++ (e.phrase ++ z)) (s.split ∙ ap (λ z. s.front ++ 44 ∷ z) k) ∙ sym (regroup e.front e.phrase s.front (44 ∷ m) (93 ∷ r)),
      next e.blank e.value s.blank ms,
    )

-- nothing lengthens an array's text
pub array_stops : (m r : List ℕ) → Stops (91 ∷ m) r
array_stops m [] = tt
array_stops [] (c ∷ r) = refl
array_stops (b ∷ m) (c ∷ r) = refl

-- an array is opened, its elements are read, and it is closed
pub array_front : (x r : List ℕ) (ts : Trees) → Reads x (array ts) r → (y : List ℕ) × Opens x y × Tail ts false y r
array_front x r ts p = by_value p.front p.phrase p.split p.blank p.value
  where
    opened : (w m : List ℕ) → x ≡ w ++ ((91 ∷ m ++ 93 ∷ []) ++ r) → Blanks w → Opens x (m ++ 93 ∷ r)
    opened w m e b = record { front = w; split = e ∙ ap (λ z. w ++ 91 ∷ z) (append_assoc m (93 ∷ []) r); blank = b }

    by_value : {ts : Trees} (w s : List ℕ) → x ≡ w ++ (s ++ r) → Blanks w → Val s (array ts) → (y : List ℕ) × Opens x y × Tail ts false y r
    by_value w s e b (is_empty_array {w = v} bv) = (v ++ 93 ∷ r, opened w v e b, record { front = v; split = refl; blank = bv })
    by_value w s e b (is_array {m = m} ms) = (m ++ 93 ∷ r, opened w m e b, members_tail r ms)

-- what is opened, read and closed is an array
pub array_reads : (x y r : List ℕ) (ts : Trees) → Opens x y → Tail ts false y r → Reads x (array ts) r
array_reads x y r no_more o c = record {
  front = o.front;
  phrase = 91 ∷ c.front ++ 93 ∷ [];
  split = o.split ∙ ap (λ z. o.front ++ 91 ∷ z) (c.split ∙ sym (append_assoc c.front (93 ∷ []) r));
  blank = o.blank;
  value = is_empty_array c.blank;
  stops = array_stops (c.front ++ 93 ∷ []) r;
}
array_reads x y r (more t ts) o tl =
    let (m, e, ms) = tail_members t ts y r tl in
    record {
      front = o.front;
      phrase = 91 ∷ m ++ 93 ∷ [];
      split = o.split ∙ ap (λ z. o.front ++ 91 ∷ z) (e ∙ sym (append_assoc m (93 ∷ []) r));
      blank = o.blank;
      value = is_array ms;
      stops = array_stops (m ++ 93 ∷ []) r;
    }
