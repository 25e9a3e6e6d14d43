-- How far an input was read: what was read is a front, and each step leads to the next front.
use Rattle.std.proofs.Common.{◌≡◌, ℕ, ◌+◌, ◌<◌, Bool, true, List, [], ◌∷◌, ◌++◌, length, refl, ap, sym, ◌∙◌, append_assoc, arith, subst}
use Rattle.std.proofs.lemmas.List.{append-nil}
use Rattle.json5_grammar.specs.Language.Blanks.{Blanks, Gap, at_end}
use Rattle.json5_grammar.specs.Language.Names.{Key}
use Rattle.json5_grammar.specs.Language.Trees.{Tree}
use Rattle.json5_grammar.specs.Language.Values.{Stops}
use Rattle.json5_grammar.specs.Faults.Fronts.{BracketKind, Bracket, Expects, takes_value, after, member_of, opening, Front, start, after_value, after_bracket, after_comma, after_key, after_colon, value, key, colon, comma}
use Rattle.json5_grammar.proofs.CommonLemmas.{append_after_two}
use Rattle.json5_grammar.proofs.BlanksSound.{Gap-append}
use Rattle.json5_grammar.proofs.ValuesSound.{IsGap, IsValue, IsKeyAt, IsValueAfter}

-- x is read up to y: what was read, the open brackets, and what is expected
pub record At (limit : ℕ) (x y : List ℕ) (o : List Bracket) (a : Expects) : Type 0 where
  pub front : List ℕ
  pub split : x ≡ front ++ y
  pub cut : Front limit front y o a

-- ---- gaps

no_more : (w y : List ℕ) → [] ≡ w ++ y → (w ≡ []) × (y ≡ [])
no_more [] y e = (refl, sym e)
no_more (c ∷ w) y e = absurd (cc)

-- a gap, and then more of it
pub gap_more : {v r : List ℕ} (w y : List ℕ) → Gap v r → r ≡ w ++ y → Gap w y → Gap (v ++ w) y
gap_more w y (Gap.blanks b) e g = Gap-append b g
gap_more w y (at_end {w = v} l) e g = let k = no_more w y e in rw (k.0, k.1, append-nil v) (at_end l)

-- a front, and then a gap
pub front_gap : {limit : ℕ} {f r : List ℕ} {o : List Bracket} {a : Expects} (w y : List ℕ) → Front limit f r o a → r ≡ w ++ y → Gap w y
    → Front limit (f ++ w) y o a
front_gap w y (start g) e k = start (gap_more w y g e k)
front_gap {limit = limit} w y (after_value {g = g} {s = s} {w = v} {r = r} {o = o} {a = a} f t h st d b) e k =
    let same : s ++ (v ++ r) ≡ s ++ ((v ++ w) ++ y) = ap (λ z. s ++ (v ++ z)) e ∙ ap (λ z. s ++ z) (sym (append_assoc v w y)) in
    subst (λ z. Front limit z y o (after o)) (sym (append_after_two g s v w))
    (after_value (subst (λ z. Front limit g z o a) same f) t h (subst (Stops s) (ap (λ z. v ++ z) e ∙ sym (append_assoc v w y)) st) d
    (gap_more w y b e k))
front_gap {limit = limit} w y (after_bracket {g = g} {w = v} {r = r} {o = o} {a = a} kind f t l b) e k =
    let same : opening kind ∷ (v ++ r) ≡ opening kind ∷ ((v ++ w) ++ y) =
    ap (λ z. opening kind ∷ (v ++ z)) e ∙ ap (λ z. opening kind ∷ z) (sym (append_assoc v w y)) in
    subst (λ z. Front limit z y (record { kind = kind; before = g } ∷ o) (member_of kind)) (sym (append_assoc g (opening kind ∷ v) w))
    (after_bracket kind (subst (λ z. Front limit g z o a) same f) t l (gap_more w y b e k))
front_gap {limit = limit} w y (after_comma {g = g} {w = v} {r = r} {b = bracket} {o = o} f b) e k =
    let same : 44 ∷ (v ++ r) ≡ 44 ∷ ((v ++ w) ++ y) = ap (λ z. 44 ∷ (v ++ z)) e ∙ ap (λ z. 44 ∷ z) (sym (append_assoc v w y)) in
    subst (λ z. Front limit z y (bracket ∷ o) (member_of bracket.kind)) (sym (append_assoc g (44 ∷ v) w))
    (after_comma (subst (λ z. Front limit g z (bracket ∷ o) comma) same f) (gap_more w y b e k))
front_gap {limit = limit} w y (after_key {g = g} {k = s} {w = v} {r = r} {u = u} {o = o} {escape_free = escape_free} f is b) e k =
    let same : s ++ (v ++ r) ≡ s ++ ((v ++ w) ++ y) = ap (λ z. s ++ (v ++ z)) e ∙ ap (λ z. s ++ z) (sym (append_assoc v w y)) in
    subst (λ z. Front limit z y o colon) (sym (append_after_two g s v w))
    (after_key (subst (λ z. Front limit g z o key) same f) (subst (λ z. Key s z u escape_free) (ap (λ z. v ++ z) e ∙ sym (append_assoc v w y)) is)
    (gap_more w y b e k))
front_gap {limit = limit} w y (after_colon {g = g} {w = v} {r = r} {o = o} f b) e k =
    let same : 58 ∷ (v ++ r) ≡ 58 ∷ ((v ++ w) ++ y) = ap (λ z. 58 ∷ (v ++ z)) e ∙ ap (λ z. 58 ∷ z) (sym (append_assoc v w y)) in
    subst (λ z. Front limit z y o value) (sym (append_assoc g (58 ∷ v) w))
    (after_colon (subst (λ z. Front limit g z o colon) same f) (gap_more w y b e k))

-- ---- steps

-- no blanks are a gap, whatever follows
pub no_gap : (r : List ℕ) → Gap [] r
no_gap r = Gap.blanks Blanks.empty

module _ (limit : ℕ) (x : List ℕ) where
  -- past one more piece
  moved : (f y z w : List ℕ) → x ≡ f ++ y → y ≡ w ++ z → x ≡ (f ++ w) ++ z
  moved f y z w e k = e ∙ ap (λ q. f ++ q) k ∙ sym (append_assoc f w z)

  -- nothing is read at the start
  pub at_start : At limit x x [] value
  at_start = record { front = []; split = refl; cut = start (no_gap x) }

  -- over blanks
  pub at_gap : {o : List Bracket} {a : Expects} (y r : List ℕ) (u : Unit {0}) → At limit x y o a → IsGap y u r → At limit x r o a
  at_gap y r u h (w, e, g, s) = record { front = h.front ++ w; split = moved h.front y r w h.split e; cut = front_gap w r h.cut e g }

  pub at_blanks : {o : List Bracket} {a : Expects} (y w r : List ℕ) → At limit x y o a → y ≡ w ++ r → Blanks w → At limit x r o a
  at_blanks y w r h e b = record { front = h.front ++ w; split = moved h.front y r w h.split e; cut = front_gap w r h.cut e (Gap.blanks b) }

  -- over a value
  pub at_value : {o : List Bracket} {a : Expects} (d : ℕ) (y r : List ℕ) (t : Tree) → At limit x y o a → takes_value a ≡ true
      → length o + d ≡ limit → IsValue d y t r → At limit x r o (after o)
  at_value {o = o} {a = a} d y r t h k l (s, e, v, st, low) = record {
    front = h.front ++ (s ++ []);
    split = moved h.front y r (s ++ []) h.split (e ∙ ap (λ z. z ++ r) (sym (append-nil s)));
    cut = after_value (subst (λ z. Front limit h.front z o a) e h.cut) k v st (omega (arith, l, low)) (no_gap r);
  }

  -- over an opening bracket
  pub at_open : {o : List Bracket} {a : Expects} (k : BracketKind) (r : List ℕ) (h : At limit x (opening k ∷ r) o a) → takes_value a ≡ true
      → length o < limit → At limit x r (record { kind = k; before = h.front } ∷ o) (member_of k)
  at_open k r h t l =
      record {
        front = h.front ++ opening k ∷ [];
        split = moved h.front (opening k ∷ r) r (opening k ∷ []) h.split refl;
        cut = after_bracket k h.cut t l (no_gap r);
      }

  -- over a comma
  pub at_comma : {o : List Bracket} {b : Bracket} (r : List ℕ) → At limit x (44 ∷ r) (b ∷ o) comma → At limit x r (b ∷ o) (member_of b.kind)
  at_comma r h = record { front = h.front ++ 44 ∷ []; split = moved h.front (44 ∷ r) r (44 ∷ []) h.split refl; cut = after_comma h.cut (no_gap r) }

  -- over a key
  pub at_key : {o : List Bracket} (y r : List ℕ) (a : List ℕ × Bool) → At limit x y o key → IsKeyAt y a r → At limit x r o colon
  at_key {o = o} y r a h (k, e, is) = record {
    front = h.front ++ (k ++ []);
    split = moved h.front y r (k ++ []) h.split (e ∙ ap (λ z. z ++ r) (sym (append-nil k)));
    cut = after_key (subst (λ z. Front limit h.front z o key) e h.cut) is (no_gap r);
  }

  -- over a colon
  pub at_colon : {o : List Bracket} (r : List ℕ) → At limit x (58 ∷ r) o colon → At limit x r o value
  at_colon r h = record { front = h.front ++ 58 ∷ []; split = moved h.front (58 ∷ r) r (58 ∷ []) h.split refl; cut = after_colon h.cut (no_gap r) }

  -- over blanks, a colon, blanks and a value
  pub at_key_value : {o : List Bracket} (d : ℕ) (y r : List ℕ) (t : Tree) → At limit x y o colon → length o + d ≡ limit → IsValueAfter d y t r
      → At limit x r o (after o)
  at_key_value d y r t h l ((z, s, p), low) =
      let before_colon = at_blanks y s.front (58 ∷ z) h s.split s.blank in
      let before_value = at_blanks z p.front (p.phrase ++ r) (at_colon z before_colon) p.split p.blank in
      at_value d (p.phrase ++ r) r t before_value refl l (p.phrase, refl, p.value, p.stops, low)
