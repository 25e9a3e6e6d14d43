-- What is read is in the grammar, and a fault's position is in the input.
use Rattle.std.proofs.Common.{◌≡◌, ℕ, zero, suc, ◌≤◌, Bool, true, false, cond, ◌||◌, List, [], ◌∷◌, ◌++◌, length, refl, ap, sym, ◌∙◌, append_assoc, arith, subst, inl, inr, ◌⊎◌, Option, Some}
use Rattle.std.specs.Prelude.{◌==◌}
use Rattle.std.proofs.lemmas.Bool.Decides.{nat_tests}
use Rattle.json5_grammar.specs.Language.Characters.{is_identifier_start}
use Rattle.json5_grammar.specs.Faults.Codes.{ExpectedValue, ExpectedIdentifier, ErrorCode}
use Rattle.json5_grammar.specs.Language.Blanks.{Blanks, Gap, at_end, Solid, is_solid}
use Rattle.json5_grammar.specs.Faults.Tokens.{is_sign, begins_number, null_word, true_word, false_word}
use Rattle.json5_grammar.specs.Language.Numbers.{Number}
use Rattle.json5_grammar.specs.Language.Strings.{Str, quoted, is_quote}
use Rattle.json5_grammar.specs.Language.Names.{Key}
use Rattle.json5_grammar.specs.Language.Trees.{Tree, Trees, Members, null, boolean, text, array, object, no_more, more, no_member, member, depth, depths, member_depths}
use Rattle.json5_grammar.specs.Language.Values.{Val, is_null, is_true, is_false, is_number, is_text, null_text, true_text, false_text, Stops, Reads}
use Rattle.json5_grammar.specs.Model.Collections.{IsSign, ReadsKey, IsKeyValue, Tail, MembersTail}
use Rattle.json5_grammar.specs.Model.Reading.{Place, here, inner, Read, got, bad, and_then, placed}
use Rattle.json5_grammar.specs.Model.ReadBlanks.{skip, between}
use Rattle.json5_grammar.specs.Model.ReadNumbers as numbers
use Rattle.json5_grammar.specs.Model.ReadTexts.{key, string, identifier}
use Rattle.json5_grammar.specs.Model.ReadValues.{read_elements, read_members, after_element, close_or, element_at, after_member, colon_at, value_after, member_at, key_or, as_leaf, value_with, too_deep, read}
use Rattle.json5_grammar.proofs.CommonLemmas.{by_test, eq_from}
use Rattle.json5_grammar.proofs.BlanksRead.{begins_solid}
use Rattle.json5_grammar.proofs.BlanksSound.{BlanksSound, skip_sound, Blanks-append}
use Rattle.json5_grammar.proofs.FoundPlaces.{IsIn, Found, in_whole, in_at, found_then, found_after, found_placed, found, refused_in}
use Rattle.json5_grammar.proofs.WordsRead.{WordSound, word_sound}
use Rattle.json5_grammar.proofs.NumbersSound.{PlaceIs, SoundNumber, sound}
use Rattle.json5_grammar.proofs.StringsSound.{StringSound, string_sound}
use Rattle.json5_grammar.proofs.KeysRead.{KeySound, key_sound}
use Rattle.json5_grammar.proofs.ValueHeads.{val_head, key_head, array_reader, object_reader, read_step}
use Rattle.json5_grammar.proofs.ArraysRead.{opening_solid, sign_after, reads_after, phrase_found, tail_comma, array_reads}
use Rattle.json5_grammar.proofs.ObjectsRead.{opening_brace_solid, pairs_comma, object_reads}

-- ---- what each step finds

abbrev pub IsGap : List ℕ → Unit {0} → List ℕ → Type 0
IsGap x u r = (w : List ℕ) × (x ≡ w ++ r) × Gap w r × Solid r

-- a value of the tree t, which stops there, nested no deeper than d
abbrev pub IsValue : ℕ → List ℕ → Tree → List ℕ → Type 0
IsValue d x t r = (s : List ℕ) × (x ≡ s ++ r) × Val s t × Stops s r × (depth t ≤ d)

-- the same, blanks before it
abbrev pub IsPhrase : ℕ → List ℕ → Tree → List ℕ → Type 0
IsPhrase d x t r = Reads x t r × (depth t ≤ d)

-- elements and the closing bracket, after a comma where one is due
abbrev pub AreElements : ℕ → Bool → List ℕ → Trees → List ℕ → Type 0
AreElements d comma_due x ts r = Tail ts comma_due x r × (depths ts ≤ d)

abbrev pub AreMembers : ℕ → Bool → List ℕ → Members → List ℕ → Type 0
AreMembers d comma_due x ps r = MembersTail ps comma_due x r × (member_depths ps ≤ d)

abbrev pub IsKeyAt : List ℕ → List ℕ × Bool → List ℕ → Type 0
IsKeyAt x a r = (k : List ℕ) × (x ≡ k ++ r) × Key k r a.0 a.1

-- a colon and a value
abbrev pub IsValueAfter : ℕ → List ℕ → Tree → List ℕ → Type 0
IsValueAfter d x t r = IsKeyValue x t r × (depth t ≤ d)

-- ---- tokens

pub gap_found : (x : List ℕ) → Found (IsGap x) x (skip between x)
gap_found x = by_answer (skip between x) (skip_sound x)
  where
    by_answer : (m : Read (Unit {0})) → BlanksSound x m → Found (IsGap x) x m
    by_answer (got u r) h = h
    by_answer (bad e p) b = in_at x b.place p b.is_at

null_stops : (r : List ℕ) → Stops null_text r
null_stops [] = tt
null_stops (c ∷ r) = refl

true_stops : (r : List ℕ) → Stops true_text r
true_stops [] = tt
true_stops (c ∷ r) = refl

false_stops : (r : List ℕ) → Stops false_text r
false_stops [] = tt
false_stops (c ∷ r) = refl

leaf_word : (d : ℕ) (w x : List ℕ) (t : Tree) (m : Read Tree) → Val w t → ((r : List ℕ) → Stops w r) → depth t ≡ 0 → WordSound t w x m → Found (IsValue d x) x m
leaf_word d w x t (got u r) v st l (i, e) = rw i (w, e, v, st r, omega (arith, l))
leaf_word d w x t (bad e p) v st l b = in_at x b.place p b.is_at

number_place : (x : List ℕ) (p : Place) (place : _) → PlaceIs x p place → IsIn x p
number_place x (here q) place (b, is, e) = (b, e)
number_place x inner place e = tt

leaf_number : (d : ℕ) (x : List ℕ) (m : Read Number) → SoundNumber x m → Found (IsValue d x) x (as_leaf Tree.number m)
leaf_number d x (got n r) (s, e, num, st) = (s, e, is_number num, st, omega arith)
leaf_number d x (bad e p) b = number_place x p b.place b.is_place

quote_stops : (q : ℕ) (m r : List ℕ) → (q ≡ 34) ⊎ (q ≡ 39) → Stops (q ∷ m) r
quote_stops q m [] e = tt
quote_stops q [] (c ∷ r) (inl e) = rw e refl
quote_stops q [] (c ∷ r) (inr e) = rw e refl
quote_stops q (b ∷ m) (c ∷ r) (inl e) = rw e refl
quote_stops q (b ∷ m) (c ∷ r) (inr e) = rw e refl

which_quote : (q : ℕ) → is_quote q ≡ true → (q ≡ 34) ⊎ (q ≡ 39)
which_quote q h = grind (arith, nat_tests)

-- nothing lengthens a string
pub text_stops : {s u : List ℕ} {escape_free : Bool} (r : List ℕ) → Str s u escape_free → Stops s r
text_stops r (quoted {q = q} {s = s} k i) = quote_stops q (s ++ q ∷ []) r (which_quote q k)

leaf_text : (d : ℕ) (x : List ℕ) (m : Read (List ℕ × Bool)) → StringSound x m → Found (IsValue d x) x (as_leaf (λ a. text a.0 a.1) m)
leaf_text d x (got a r) (s, e, k) = (s, e, is_text k, text_stops r k, omega arith)
leaf_text d x (bad e p) b = in_at x b.place p b.is_at

pub no_key_at : (c : ℕ) (r : List ℕ) → (is_quote c || ((c == 92) || is_identifier_start c)) ≡ false → key (c ∷ r) ≡ bad (Some ExpectedIdentifier) (here (c ∷ r))
unfolding key identifier
no_key_at c r h = tests _ _ _ (is_quote c) (c == 92) (is_identifier_start c) h
  where
    tests : (s e n : Read (List ℕ × Bool)) (a b d : Bool) → (a || (b || d)) ≡ false → cond a s (cond b e (cond d n (bad (Some ExpectedIdentifier) (here (c ∷ r))))) ≡ bad (Some ExpectedIdentifier) (here (c ∷ r))
    tests s e n true b d h = absurd (cc)
    tests s e n false true d h = absurd (cc)
    tests s e n false false true h = absurd (cc)
    tests s e n false false false h = refl

from_key : (x : List ℕ) (m : Read (List ℕ × Bool)) → KeySound x m → Found (IsKeyAt x) x m
from_key x (got a r) h = h
from_key x (bad e p) (inl b) = in_at x b.place p b.is_at
from_key x (bad e p) (inr b) = in_at x b.place p b.is_at

pub key_found : (c : ℕ) (r : List ℕ) → Found (IsKeyAt (c ∷ r)) (c ∷ r) (key (c ∷ r))
key_found c r = split (is_quote c || ((c == 92) || is_identifier_start c)) refl
  where
    split : (b : Bool) → (is_quote c || ((c == 92) || is_identifier_start c)) ≡ b → Found (IsKeyAt (c ∷ r)) (c ∷ r) (key (c ∷ r))
    split true h = from_key (c ∷ r) (key (c ∷ r)) (key_sound c r h)
    split false h = rw (no_key_at c r h) (in_whole (c ∷ r))

-- ---- gaps before what goes on

no_text : (f : List ℕ) (c : ℕ) (m r : List ℕ) → [] ≡ f ++ ((c ∷ m) ++ r) → ⊥
no_text [] c m r e = cc
no_text (a ∷ f) c m r e = cc

pub sign_gap : (c : ℕ) (w x y r : List ℕ) → x ≡ w ++ y → Gap w y → IsSign c y r → IsSign c x r
sign_gap c w x y r e g s = rw e (by_gap g s)
  where
    by_gap : {w y : List ℕ} → Gap w y → IsSign c y r → IsSign c (w ++ y) r
    by_gap {w = w} {y = y} (Gap.blanks b) s = sign_after c w y r b s
    by_gap (at_end l) s = absurd (no_text s.front c [] r s.split)

reads_gap : (w x y r : List ℕ) (t : Tree) → x ≡ w ++ y → Gap w y → Reads y t r → Reads x t r
reads_gap w x y r t e g p = rw e (by_gap g p)
  where
    by_gap : {w y : List ℕ} → Gap w y → Reads y t r → Reads (w ++ y) t r
    by_gap {w = w} {y = y} (Gap.blanks b) p = reads_after w y r t b p
    by_gap (at_end l) p = let h = val_head p.value in absurd (no_text p.front h.char h.more r (p.split ∙ ap (λ z. p.front ++ (z ++ r)) h.is))

pub tail_gap : (ts : Trees) (comma_due : Bool) (w x y r : List ℕ) → x ≡ w ++ y → Gap w y → Tail ts comma_due y r → Tail ts comma_due x r
tail_gap no_more false w x y r e g s = sign_gap 93 w x y r e g s
tail_gap no_more true w x y r e g (inl s) = inl (sign_gap 93 w x y r e g s)
tail_gap no_more true w x y r e g (inr (z, c, s)) = inr (z, sign_gap 44 w x y z e g c, s)
tail_gap (more t ts) false w x y r e g (z, p, tl) = (z, reads_gap w x y z t e g p, tl)
tail_gap (more t ts) true w x y r e g (z, (q, c, p), tl) = (z, (q, sign_gap 44 w x y q e g c, p), tl)

key_gap : (w x y u r : List ℕ) (escape_free : Bool) → x ≡ w ++ y → Gap w y → ReadsKey y u escape_free r → ReadsKey x u escape_free r
key_gap w x y u r escape_free e g k = rw e (by_gap g k)
  where
    by_gap : {w y : List ℕ} → Gap w y → ReadsKey y u escape_free r → ReadsKey (w ++ y) u escape_free r
    by_gap {w = w} {y = y} (Gap.blanks b) k = record {
      front = w ++ k.front;
      spelling = k.spelling;
      split = ap (λ z. w ++ z) k.split ∙ sym (append_assoc w k.front (k.spelling ++ r));
      blank = Blanks-append b k.blank;
      key = k.key;
    }
    by_gap (at_end l) k = let h = key_head k.key in absurd (no_text k.front h.char h.more r (k.split ∙ ap (λ z. k.front ++ (z ++ r)) h.is))

pub pairs_gap : (ps : Members) (comma_due : Bool) (w x y r : List ℕ) → x ≡ w ++ y → Gap w y → MembersTail ps comma_due y r → MembersTail ps comma_due x r
pairs_gap no_member false w x y r e g s = sign_gap 125 w x y r e g s
pairs_gap no_member true w x y r e g (inl s) = inl (sign_gap 125 w x y r e g s)
pairs_gap no_member true w x y r e g (inr (z, c, s)) = inr (z, sign_gap 44 w x y z e g c, s)
pairs_gap (member u escape_free t ps) false w x y r e g (k, z, a, v, tl) = (k, z, key_gap w x y u k escape_free e g a, v, tl)
pairs_gap (member u escape_free t ps) true w x y r e g (k, z, (q, c, a), v, tl) = (k, z, (q, sign_gap 44 w x y q e g c, a), v, tl)

-- ---- steps between elements

sign_here : (c : ℕ) (r : List ℕ) → IsSign c (c ∷ r) r
sign_here c r = record { front = []; split = refl; blank = Blanks.empty }

sign_first : (c a : ℕ) (r : List ℕ) → (c == a) ≡ true → IsSign a (c ∷ r) r
sign_first c a r h = record { front = []; split = ap (λ z. z ∷ r) (eq_from c a h); blank = Blanks.empty }

first_of : (c : ℕ) (r : List ℕ) → c ∷ r ≡ (c ∷ []) ++ r
first_of c r = refl

value_reads : (d : ℕ) (x r : List ℕ) (t : Tree) → IsValue d x t r → Reads x t r
value_reads d x r t (s, k, v, st, l) = record { front = []; phrase = s; split = k; blank = Blanks.empty; value = v; stops = st }

pub phrase_of : (d : ℕ) (x w y r : List ℕ) (t : Tree) → x ≡ w ++ y → Gap w y → IsValue d y t r → IsPhrase d x t r
phrase_of d x w y r t e g v = (reads_gap w x y r t e g (value_reads d y r t v), v.4)

pub after_found : (d : ℕ) (k : List ℕ → Read Trees) → ((y : List ℕ) → Found (AreElements d false y) y (k y)) → (y : List ℕ) → Found (AreElements d true y) y (after_element k y)
after_found d k h [] = tt
after_found d k h (c ∷ r) =
    by_test (Found (AreElements d true (c ∷ r)) (c ∷ r)) (c == 44) _ _
    (λ a. found_after (AreElements d false r) (AreElements d true (c ∷ r)) (c ∷ []) (c ∷ r) r (k r) refl (h r) (λ ts z m. (tail_comma ts (c ∷ r) r z (sign_first c 44 r a) m.0, m.1)))
    (λ a. by_test (Found (AreElements d true (c ∷ r)) (c ∷ r)) (c == 93) (got no_more r) _
    (λ b. (inl (sign_first c 93 r b), omega arith))
    (λ b. in_whole (c ∷ r)))

pub after_member_found : (d : ℕ) (k : List ℕ → Read Members) → ((y : List ℕ) → Found (AreMembers d false y) y (k y)) → (y : List ℕ) → Found (AreMembers d true y) y (after_member k y)
after_member_found d k h [] = tt
after_member_found d k h (c ∷ r) =
    by_test (Found (AreMembers d true (c ∷ r)) (c ∷ r)) (c == 44) _ _
    (λ a. found_after (AreMembers d false r) (AreMembers d true (c ∷ r)) (c ∷ []) (c ∷ r) r (k r) refl (h r) (λ ps z m. (pairs_comma ps (c ∷ r) r z (sign_first c 44 r a) m.0, m.1)))
    (λ a. by_test (Found (AreMembers d true (c ∷ r)) (c ∷ r)) (c == 125) (got no_member r) _
    (λ b. (inl (sign_first c 125 r b), omega arith))
    (λ b. in_whole (c ∷ r)))

pub colon_found : (x : List ℕ) → Found (λ u r. IsSign 58 x r) x (colon_at x)
colon_found [] = tt
colon_found (c ∷ r) = by_test (Found (λ u z. IsSign 58 (c ∷ r) z) (c ∷ r)) (c == 58) _ _ (λ a. sign_first c 58 r a) (λ a. in_whole (c ∷ r))

before_sign : (c : ℕ) (x r : List ℕ) (s : IsSign c x r) → x ≡ (s.front ++ c ∷ []) ++ r
before_sign c x r s = s.split ∙ sym (append_assoc s.front (c ∷ []) r)

-- the tree t and others, which r goes on with
abbrev MoreElements : ℕ → Tree → List ℕ → Trees → List ℕ → Type 0
MoreElements d t r us z = (ts : Trees) × (us ≡ more t ts) × Tail ts true r z × (depths ts ≤ d)

abbrev MoreMembers : ℕ → List ℕ × Bool → Tree → List ℕ → Members → List ℕ → Type 0
MoreMembers d a t r qs z = (ps : Members) × (qs ≡ member a.0 a.1 t ps) × MembersTail ps true r z × (member_depths ps ≤ d)

-- a value after the key, and other pairs
abbrev AfterKey : ℕ → List ℕ × Bool → List ℕ → Members → List ℕ → Type 0
AfterKey d a y qs z = (t : Tree) × (r : List ℕ) × IsValueAfter d y t r × MoreMembers d a t r qs z

pub before_rest : (x r : List ℕ) (t : Tree) → IsKeyValue x t r → (w : List ℕ) × (x ≡ w ++ r)
before_rest x r t (z, s, p) = (
  (s.front ++ 58 ∷ []) ++ (p.front ++ p.phrase),
  before_sign 58 x z s ∙ ap (λ q. (s.front ++ 58 ∷ []) ++ q) (p.split ∙ sym (append_assoc p.front p.phrase r)) ∙ sym (append_assoc (s.front ++ 58 ∷ []) (p.front ++ p.phrase) r),
)

module _ (d : ℕ) (val : List ℕ → Read Tree) (val_found : (x : List ℕ) → Found (IsValue d x) x (val x)) where
  module _ (k : List ℕ → Read Trees) (k_found : (y : List ℕ) → Found (AreElements d false y) y (k y)) where
    comma_found : (t : Tree) (y : List ℕ) → Found (MoreElements d t y) y (and_then (after_element k y) (λ ts z. got (more t ts) z))
    comma_found t y = found_then (AreElements d true y) (MoreElements d t y) y (after_element k y) _ (after_found d k k_found y) (λ ts z m. (ts, refl, m.0, m.1))

    others_found : (t : Tree) (r : List ℕ) → Found (MoreElements d t r) r (and_then (skip between r) (λ u y. and_then (after_element k y) (λ ts z. got (more t ts) z)))
    others_found t r = found_then (IsGap r) (MoreElements d t r) r (skip between r) _ (gap_found r)
        (λ u y g. found_after (MoreElements d t y) (MoreElements d t r) g.0 r y _ g.1 (comma_found t y) (λ us z m. (m.0, m.1, tail_gap m.0 true g.0 r y z g.1 g.2 m.2, m.3)))

    with_first : (x r z : List ℕ) (t : Tree) (us : Trees) → IsValue d x t r → MoreElements d t r us z → AreElements d false x us z
    with_first x r z t us v (ts, e, tl, l) = subst (λ q. AreElements d false x q z) (sym e) ((r, value_reads d x r t v, tl), omega (arith, l, v.4))

    member_found : (x : List ℕ) → Found (AreElements d false x) x (element_at val k x)
    member_found x = found_then (IsValue d x) (AreElements d false x) x (val x) _ (val_found x)
        (λ t r v. found_after (MoreElements d t r) (AreElements d false x) v.0 x r _ v.1 (others_found t r) (λ us z m. with_first x r z t us v m))

    close_found : (x : List ℕ) → Found (AreElements d false x) x (close_or (element_at val k x) x)
    close_found [] = member_found []
    close_found (c ∷ r) =
        by_test (Found (AreElements d false (c ∷ r)) (c ∷ r)) (c == 93) (got no_more r) _
        (λ a. (sign_first c 93 r a, omega arith))
        (λ a. member_found (c ∷ r))

  pub items_found : (n : ℕ) (x : List ℕ) → Found (AreElements d false x) x (read_elements val n x)
  unfolding read_elements
  items_found zero x = tt
  items_found (suc n) x = found_then (IsGap x) (AreElements d false x) x (skip between x) _ (gap_found x)
      (λ u y g. found_after (AreElements d false y) (AreElements d false x) g.0 x y _ g.1 (close_found (read_elements val n) (items_found n) y) (λ ts z m. (tail_gap ts false g.0 x y z g.1 g.2 m.0, m.1)))

  -- ---- pairs

  phrase_here : (x : List ℕ) → Found (IsPhrase d x) x (and_then (skip between x) (λ w q. val q))
  phrase_here x = found_then (IsGap x) (IsPhrase d x) x (skip between x) _ (gap_found x)
      (λ u y g. found_after (IsValue d y) (IsPhrase d x) g.0 x y _ g.1 (val_found y) (λ t r v. phrase_of d x g.0 y r t g.1 g.2 v))

  colon_value : (x : List ℕ) → Found (IsValueAfter d x) x (and_then (colon_at x) (λ v z. and_then (skip between z) (λ w q. val q)))
  colon_value x = found_then (λ u r. IsSign 58 x r) (IsValueAfter d x) x (colon_at x) _ (colon_found x)
      (λ u z s. found_after (IsPhrase d z) (IsValueAfter d x) (s.front ++ 58 ∷ []) x z _ (before_sign 58 x z s) (phrase_here z) (λ t r p. ((z, s, p.0), p.1)))

  pub value_found : (x : List ℕ) → Found (IsValueAfter d x) x (value_after val x)
  value_found x = found_then (IsGap x) (IsValueAfter d x) x (skip between x) _ (gap_found x)
      (λ u y g. found_after (IsValueAfter d y) (IsValueAfter d x) g.0 x y _ g.1 (colon_value y) (λ t r v. ((v.0.0, sign_gap 58 g.0 x y v.0.0 g.1 g.2 v.0.1, v.0.2), v.1)))

  module _ (k : List ℕ → Read Members) (k_found : (y : List ℕ) → Found (AreMembers d false y) y (k y)) where
    pair_comma_found : (a : List ℕ × Bool) (t : Tree) (y : List ℕ) → Found (MoreMembers d a t y) y (and_then (after_member k y) (λ ps z. got (member a.0 a.1 t ps) z))
    pair_comma_found a t y = found_then (AreMembers d true y) (MoreMembers d a t y) y (after_member k y) _ (after_member_found d k k_found y) (λ ps z m. (ps, refl, m.0, m.1))

    other_pairs_found : (a : List ℕ × Bool) (t : Tree) (r : List ℕ) → Found (MoreMembers d a t r) r (and_then (skip between r) (λ u y. and_then (after_member k y) (λ ps z. got (member a.0 a.1 t ps) z)))
    other_pairs_found a t r = found_then (IsGap r) (MoreMembers d a t r) r (skip between r) _ (gap_found r)
        (λ u y g. found_after (MoreMembers d a t y) (MoreMembers d a t r) g.0 r y _ g.1 (pair_comma_found a t y) (λ qs z m. (m.0, m.1, pairs_gap m.0 true g.0 r y z g.1 g.2 m.2, m.3)))

    with_value : (a : List ℕ × Bool) (x y r z : List ℕ) (t : Tree) (qs : Members) → IsKeyAt x a y → IsValueAfter d y t r → MoreMembers d a t r qs z → AreMembers d false x qs z
    with_value a x y r z t qs (s, e, key) v (ps, is, tl, l) = subst (λ q. AreMembers d false x q z) (sym is)
        ((y, r, record { front = []; spelling = s; split = e; blank = Blanks.empty; key = key }, v.0, tl), omega (arith, l, v.1))

    after_key_found : (a : List ℕ × Bool) (x y : List ℕ) → IsKeyAt x a y → Found (AreMembers d false x) x (and_then (value_after val y) (λ t r. and_then (skip between r) (λ u z. and_then (after_member k z) (λ ps q. got (member a.0 a.1 t ps) q))))
    after_key_found a x y at = found_after (AfterKey d a y) (AreMembers d false x) at.0 x y _ at.1
        (found_then (IsValueAfter d y) (AfterKey d a y) y (value_after val y) _ (value_found y)
        (λ t r v. let w = before_rest y r t v.0 in found_after (MoreMembers d a t r) (AfterKey d a y) w.0 y r _ w.1 (other_pairs_found a t r) (λ qs z m. (t, r, v, m))))
        (λ qs z m. with_value a x y m.1 z m.0 qs at m.2 m.3)

    pair_found : (c : ℕ) (r : List ℕ) → Found (AreMembers d false (c ∷ r)) (c ∷ r) (member_at val k (c ∷ r))
    pair_found c r = found_then (IsKeyAt (c ∷ r)) (AreMembers d false (c ∷ r)) (c ∷ r) (key (c ∷ r)) _ (key_found c r) (λ a y key. after_key_found a (c ∷ r) y key)

    brace_found : (x : List ℕ) → Found (AreMembers d false x) x (key_or (member_at val k x) x)
    brace_found [] = tt
    brace_found (c ∷ r) =
        by_test (Found (AreMembers d false (c ∷ r)) (c ∷ r)) (c == 125) (got no_member r) _
        (λ a. (sign_first c 125 r a, omega arith))
        (λ a. pair_found c r)

  pub entries_found : (n : ℕ) (x : List ℕ) → Found (AreMembers d false x) x (read_members val n x)
  unfolding read_members
  entries_found zero x = tt
  entries_found (suc n) x = found_then (IsGap x) (AreMembers d false x) x (skip between x) _ (gap_found x)
      (λ u y g. found_after (AreMembers d false y) (AreMembers d false x) g.0 x y _ g.1 (brace_found (read_members val n) (entries_found n) y) (λ ps z m. (pairs_gap ps false g.0 x y z g.1 g.2 m.0, m.1)))

-- ---- brackets

-- what begins with a solid character has no blanks in front
value_alone : (d c : ℕ) (x r : List ℕ) (t : Tree) → is_solid c ≡ true → Reads (c ∷ x) t r → depth t ≤ d → IsValue d (c ∷ x) t r
value_alone d c x r t h p l = (p.phrase, phrase_found (c ∷ x) [] (c ∷ x) r t refl (Gap.blanks Blanks.empty) (begins_solid c x h) p, p.value, p.stops, l)

array_found : (d : ℕ) (r : List ℕ) (m : Read Trees) → Found (AreElements d false r) r m → Found (IsValue (suc d) (91 ∷ r)) (91 ∷ r) (placed (91 ∷ r) (and_then m (λ ts y. got (array ts) y)))
array_found d r m h = found_placed (IsValue (suc d) (91 ∷ r)) (91 ∷ r) _
    (found_after (λ t y. IsValue (suc d) (91 ∷ r) t y) (IsValue (suc d) (91 ∷ r)) (91 ∷ []) (91 ∷ r) r _ refl
    (found_then (AreElements d false r) (IsValue (suc d) (91 ∷ r)) r m _ h (λ ts y k. value_alone (suc d) 91 r y (array ts) opening_solid (array_reads (91 ∷ r) r y ts (sign_here 91 r) k.0) (omega (arith, k.1))))
    (λ t y v. v))

object_found : (d : ℕ) (r : List ℕ) (m : Read Members) → Found (AreMembers d false r) r m → Found (IsValue (suc d) (123 ∷ r)) (123 ∷ r) (placed (123 ∷ r) (and_then m (λ ps y. got (object ps) y)))
object_found d r m h = found_placed (IsValue (suc d) (123 ∷ r)) (123 ∷ r) _
    (found_after (λ t y. IsValue (suc d) (123 ∷ r) t y) (IsValue (suc d) (123 ∷ r)) (123 ∷ []) (123 ∷ r) r _ refl
    (found_then (AreMembers d false r) (IsValue (suc d) (123 ∷ r)) r m _ h (λ ps y k. value_alone (suc d) 123 r y (object ps) opening_brace_solid (object_reads (123 ∷ r) r y ps (sign_here 123 r) k.0) (omega (arith, k.1))))
    (λ t y v. v))

-- ---- values

module _ (d : ℕ) (arrays objects : List ℕ → List ℕ → Read Tree) (array_is : (r : List ℕ) → Found (IsValue d (91 ∷ r)) (91 ∷ r) (arrays (91 ∷ r) r)) (object_is : (r : List ℕ) → Found (IsValue d (123 ∷ r)) (123 ∷ r) (objects (123 ∷ r) r)) where
  text_found : (c : ℕ) (r : List ℕ) → is_quote c ≡ true → Found (IsValue d (c ∷ r)) (c ∷ r) (as_leaf (λ a. text a.0 a.1) (string (c ∷ r)))
  text_found c r h = leaf_text d (c ∷ r) (string (c ∷ r)) (string_sound c r h)

  at_bracket : (c a : ℕ) (r : List ℕ) (f : List ℕ → List ℕ → Read Tree) → (c == a) ≡ true → Found (IsValue d (a ∷ r)) (a ∷ r) (f (a ∷ r) r) → Found (IsValue d (c ∷ r)) (c ∷ r) (f (c ∷ r) r)
  at_bracket c a r f e h = subst (λ z. Found (IsValue d (z ∷ r)) (z ∷ r) (f (z ∷ r) r)) (sym (eq_from c a e)) h

  with_found : (x : List ℕ) → Found (IsValue d x) x (value_with arrays objects x)
  with_found [] = tt
  with_found (c ∷ r) =
      by_test (Found (IsValue d (c ∷ r)) (c ∷ r)) (c == 110) _ _ (λ h. leaf_word d null_text (c ∷ r) null _ is_null null_stops refl (word_sound null 110 _ c r null_word h))
      (λ n. by_test (Found (IsValue d (c ∷ r)) (c ∷ r)) (c == 116) _ _ (λ h. leaf_word d true_text (c ∷ r) (boolean true) _ is_true true_stops refl (word_sound (boolean true) 116 _ c r true_word h))
      (λ t. by_test (Found (IsValue d (c ∷ r)) (c ∷ r)) (c == 102) _ _ (λ h. leaf_word d false_text (c ∷ r) (boolean false) _ is_false false_stops refl (word_sound (boolean false) 102 _ c r false_word h))
      (λ f. by_test (Found (IsValue d (c ∷ r)) (c ∷ r)) (is_quote c) _ _ (λ h. text_found c r h)
      (λ q. by_test (Found (IsValue d (c ∷ r)) (c ∷ r)) (is_sign c || begins_number c) _ _ (λ h. leaf_number d (c ∷ r) (numbers.number (c ∷ r)) (sound (c ∷ r) h))
      (λ m. by_test (Found (IsValue d (c ∷ r)) (c ∷ r)) (c == 91) (arrays (c ∷ r) r) _ (λ h. at_bracket c 91 r arrays h (array_is r))
      (λ a. by_test (Found (IsValue d (c ∷ r)) (c ∷ r)) (c == 123) (objects (c ∷ r) r) (bad (Some ExpectedValue) (here (c ∷ r))) (λ h. at_bracket c 123 r objects h (object_is r))
      (λ o. in_whole (c ∷ r))))))))

-- what is read is a value of the grammar
pub read_found : (d : ℕ) (x : List ℕ) → Found (IsValue d x) x (read d x)
read_found zero x = rw (read_step zero x) (with_found zero too_deep too_deep (λ r. in_whole (91 ∷ r)) (λ r. in_whole (123 ∷ r)) x)
read_found (suc d) x = rw (read_step (suc d) x) (with_found (suc d) (array_reader (suc d)) (object_reader (suc d))
    (λ r. array_found d r _ (items_found d (read d) (read_found d) (suc (length r)) r))
    (λ r. object_found d r _ (entries_found d (read d) (read_found d) (suc (length r)) r))
    x)

-- what is read is a value nested no deeper than d, which stops there
pub read_sound : (d : ℕ) (x r : List ℕ) (t : Tree) → read d x ≡ got t r → IsValue d x t r
read_sound d x r t e = found (IsValue d x) x (read d x) t r (read_found d x) e

-- the position of a fault is in the input
pub read_place : (d : ℕ) (x : List ℕ) (e : Option ErrorCode) (p : Place) → read d x ≡ bad e p → IsIn x p
read_place d x e p h = refused_in (IsValue d x) x (read d x) e p (read_found d x) h
