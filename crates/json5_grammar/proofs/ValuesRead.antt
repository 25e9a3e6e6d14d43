-- What is in the grammar is read.
use Rattle.std.proofs.Common.{◌≡◌, ℕ, zero, suc, ◌<◌, ◌≤◌, Bool, true, false, List, [], ◌∷◌, ◌++◌, length, refl, ap, sym, ◌∙◌, append_assoc, arith, length-append}
use Rattle.json5_grammar.specs.Faults.Codes.{EofParsingBool, EofParsingNull, ExpectedBool, ExpectedNull}
use Rattle.json5_grammar.specs.Language.Blanks.{Blanks}
use Rattle.json5_grammar.specs.Language.Numbers.{Num, Number}
use Rattle.json5_grammar.specs.Language.Strings.{Str, quoted}
use Rattle.json5_grammar.specs.Language.Trees.{Tree, Trees, Members, null, boolean, number, text, array, object, no_more, more, no_member, member, depth, depths, member_depths}
use Rattle.json5_grammar.specs.Language.Values.{no_last_comma, last_comma, KeyText, Val, is_null, is_true, is_false, is_number, is_text, is_empty_array, is_array, is_empty_object, is_object, ElementList, last, next, MemberList, last_member, next_member, Member, entry, null_text, true_text, false_text, Stops}
use Rattle.json5_grammar.specs.Model.Reading.{Read, got, and_then, placed}
use Rattle.json5_grammar.specs.Model.ReadBlanks.{skip, between}
use Rattle.json5_grammar.specs.Model.ReadNumbers as numbers
use Rattle.json5_grammar.specs.Model.ReadValues.{read_elements, read_members, close_or, after_element, after_member, key_or, value_after, as_leaf, value_with, read}
use Rattle.json5_grammar.proofs.BlanksRead.{skip_blanks, skip_solid, printable_no_blank}
use Rattle.json5_grammar.proofs.CharacterClasses.{EndsValues, comma_ends_values, bracket_ends_values, brace_ends_values, begins_others, colon_no_name}
use Rattle.json5_grammar.proofs.WordsRead.{word_complete}
use Rattle.json5_grammar.proofs.NumbersRead.{complete}
use Rattle.json5_grammar.proofs.StringsRead.{string_complete}
use Rattle.json5_grammar.proofs.KeysRead.{key_complete}
use Rattle.json5_grammar.proofs.ValueHeads.{ValueHead, number_head, val_head, skip_value, KeyHead, key_text_head, key_begins, skip_key, key_before_blanks, stops_blanks, value_text, value_number, array_reader, object_reader, read_step}

-- ---- leaves

-- the word `null` is read
pub read_null : (d : ℕ) (r : List ℕ) → read d (null_text ++ r) ≡ got null r
read_null d r = read_step d (null_text ++ r) ∙ word_complete EofParsingNull ExpectedNull null null_text r

-- the word `true` is read
pub read_true : (d : ℕ) (r : List ℕ) → read d (true_text ++ r) ≡ got (boolean true) r
read_true d r = read_step d (true_text ++ r) ∙ word_complete EofParsingBool ExpectedBool (boolean true) true_text r

-- the word `false` is read
pub read_false : (d : ℕ) (r : List ℕ) → read d (false_text ++ r) ≡ got (boolean false) r
read_false d r = read_step d (false_text ++ r) ∙ word_complete EofParsingBool ExpectedBool (boolean false) false_text r

-- a number is read, where it stops
pub read_number : {s : List ℕ} {n : Number} (d : ℕ) (r : List ℕ) → Num s n → Stops s r → read d (s ++ r) ≡ got (number n) r
read_number {s = s} d r a st =
    let k = number_head a in
    let e : s ++ r ≡ k.0 ∷ (k.1 ++ r) = ap (λ z. z ++ r) k.2 in
    read_step d (s ++ r) ∙ ap (value_with (array_reader d) (object_reader d)) e ∙ value_number (array_reader d) (object_reader d) k.0 (k.1 ++ r) k.3
    ∙ ap (as_leaf number) (ap numbers.number (sym e) ∙ complete a r st)

-- a string is read
pub read_text : {s u : List ℕ} {escape_free : Bool} (d : ℕ) (r : List ℕ) → Str s u escape_free → read d (s ++ r) ≡ got (text u escape_free) r
read_text d r (quoted {q = q} {s = s} h i) =
    read_step d ((q ∷ s ++ q ∷ []) ++ r) ∙ value_text (array_reader d) (object_reader d) q ((s ++ q ∷ []) ++ r) h
    ∙ ap (as_leaf (λ a. text a.0 a.1)) (string_complete r (quoted h i))

-- ---- brackets

read_bracket : (d : ℕ) (m r : List ℕ) (ts : Trees) → ((n : ℕ) → length (m ++ 93 ∷ r) < n → read_elements (read d) n (m ++ 93 ∷ r) ≡ got ts r)
    → read (suc d) ((91 ∷ m ++ 93 ∷ []) ++ r) ≡ got (array ts) r
read_bracket d m r ts h =
    ap (λ z. read (suc d) (91 ∷ z)) (append_assoc m (93 ∷ []) r) ∙ read_step (suc d) (91 ∷ (m ++ 93 ∷ r))
    ∙ ap (λ z. placed (91 ∷ m ++ 93 ∷ r) (and_then z (λ ts y. got (array ts) y))) (h (suc (length (m ++ 93 ∷ r))) (omega arith))

read_brace : (d : ℕ) (m r : List ℕ) (ps : Members) → ((n : ℕ) → length (m ++ 125 ∷ r) < n → read_members (read d) n (m ++ 125 ∷ r) ≡ got ps r)
    → read (suc d) ((123 ∷ m ++ 125 ∷ []) ++ r) ≡ got (object ps) r
read_brace d m r ps h =
    ap (λ z. read (suc d) (123 ∷ z)) (append_assoc m (125 ∷ []) r) ∙ read_step (suc d) (123 ∷ (m ++ 125 ∷ r))
    ∙ ap (λ z. placed (123 ∷ m ++ 125 ∷ r) (and_then z (λ ps y. got (object ps) y))) (h (suc (length (m ++ 125 ∷ r))) (omega arith))

skip_bracket : (r : List ℕ) → skip between (93 ∷ r) ≡ got tt (93 ∷ r)
skip_bracket r = skip_solid 93 r (printable_no_blank 93 refl) refl

skip_brace : (r : List ℕ) → skip between (125 ∷ r) ≡ got tt (125 ∷ r)
skip_brace r = skip_solid 125 r (printable_no_blank 125 refl) refl

skip_comma : (r : List ℕ) → skip between (44 ∷ r) ≡ got tt (44 ∷ r)
skip_comma r = skip_solid 44 r (printable_no_blank 44 refl) refl

skip_colon : (r : List ℕ) → skip between (58 ∷ r) ≡ got tt (58 ∷ r)
skip_colon r = skip_solid 58 r (printable_no_blank 58 refl) refl

-- blanks and the closing bracket are read
pub items_close : {w : List ℕ} (val : List ℕ → Read Tree) (n : ℕ) (r : List ℕ) → length (w ++ 93 ∷ r) < n → Blanks w → read_elements val n (w ++ 93 ∷ r) ≡ got no_more r
unfolding read_elements
items_close val zero r l b = absurd (omega arith)
items_close val (suc n) r l b = rw (skip_blanks (93 ∷ r) b, skip_bracket r) refl

-- blanks and the closing brace are read
pub entries_close : {w : List ℕ} (val : List ℕ → Read Tree) (n : ℕ) (r : List ℕ) → length (w ++ 125 ∷ r) < n → Blanks w → read_members val n (w ++ 125 ∷ r) ≡ got no_member r
unfolding read_members
entries_close val zero r l b = absurd (omega arith)
entries_close val (suc n) r l b = rw (skip_blanks (125 ∷ r) b, skip_brace r) refl

-- ---- elements

close_head : {s : List ℕ} (m : Read Trees) (r : List ℕ) → ValueHead s → close_or m (s ++ r) ≡ m
close_head m r h = rw h.is (rw (begins_others h.char h.begins).3 refl)

-- what is read after an element
abbrev pub after_member_blanks : (List ℕ → Read Trees) → Tree → List ℕ → Read Trees
after_member_blanks k t y = and_then (skip between y) (λ u z. and_then (after_element k z) (λ ts x. got (more t ts) x))

-- one element, and what follows it
pub items_member : {w s v : List ℕ} {t : Tree} (d k : ℕ) (y : List ℕ) → Blanks w → ValueHead s → Blanks v → read d (s ++ (v ++ y)) ≡ got t (v ++ y)
    → read_elements (read d) (suc k) (w ++ (s ++ (v ++ y))) ≡ after_member_blanks (read_elements (read d) k) t y
unfolding read_elements
items_member {s = s} {v = v} d k y bw h bv e =
    rw (skip_blanks (s ++ (v ++ y)) bw, skip_value (v ++ y) h)
    (close_head _ (v ++ y) h ∙ rw (e, skip_blanks y bv) refl)

after_comma : (t : Tree) (ts : Trees) (d k : ℕ) (x r : List ℕ) → read_elements (read d) k x ≡ got ts r → after_member_blanks (read_elements (read d) k) t (44 ∷ x) ≡ got (more t ts) r
after_comma t ts d k x r e = rw (skip_comma x) (ap (λ q. and_then q (λ ts x. got (more t ts) x)) e)

at_close : (t : Tree) (d k : ℕ) (r : List ℕ) → after_member_blanks (read_elements (read d) k) t (93 ∷ r) ≡ got (more t no_more) r
at_close t d k r = rw (skip_bracket r) refl

pub regroup : (w s v c r : List ℕ) → (w ++ (s ++ (v ++ c))) ++ r ≡ w ++ (s ++ (v ++ (c ++ r)))
regroup w s v c r = simp append_assoc

shorter : (w s v m r : List ℕ) (k : ℕ) → length ((w ++ (s ++ (v ++ 44 ∷ m))) ++ r) < suc k → length (m ++ r) < k
shorter w s v m r k h = let e = ap length (regroup w s v (44 ∷ m) r) in
    omega (arith, e, length-append w (s ++ (v ++ 44 ∷ (m ++ r))), length-append s (v ++ 44 ∷ (m ++ r)), length-append v (44 ∷ (m ++ r)))

-- ---- pairs

key_or_head : {k : List ℕ} (m : Read Members) (r : List ℕ) → KeyHead k → key_or m (k ++ r) ≡ m
key_or_head m r h = rw h.is (rw (key_begins h.char h.begins).2 refl)

-- what is read after a pair
abbrev pub after_pair_blanks : (List ℕ → Read Members) → List ℕ → Bool → Tree → List ℕ → Read Members
after_pair_blanks k u escape_free t y = and_then (skip between y) (λ w z. and_then (after_member k z) (λ ps q. got (member u escape_free t ps) q))

-- blanks, the colon, blanks and the value
pub colon_and_value : {b w s : List ℕ} {t : Tree} (val : List ℕ → Read Tree) (y : List ℕ) → Blanks b → Blanks w → ValueHead s → val (s ++ y) ≡ got t y → value_after val (b ++ 58 ∷ (w ++ (s ++ y))) ≡ got t y
colon_and_value {w = w} {s = s} val y bb bw h e = rw (skip_blanks (58 ∷ (w ++ (s ++ y))) bb, skip_colon (w ++ (s ++ y))) (rw (skip_blanks (s ++ y) bw, skip_value y h) e)

-- one pair, and what follows it
pub entries_pair : {a k b w s v u : List ℕ} {escape_free : Bool} {t : Tree} (d n : ℕ) (y : List ℕ) → Blanks a → KeyText k u escape_free → Blanks b → Blanks w → ValueHead s → Blanks v → read d (s ++ (v ++ y)) ≡ got t (v ++ y)
    → read_members (read d) (suc n) (a ++ (k ++ (b ++ 58 ∷ (w ++ (s ++ (v ++ y)))))) ≡ after_pair_blanks (read_members (read d) n) u escape_free t y
unfolding read_members
entries_pair {k = k} {b = b} {w = w} {s = s} {v = v} d n y ba kt bb bw h bv e =
    let z = b ++ 58 ∷ (w ++ (s ++ (v ++ y))) in
    let head = key_text_head kt in
    rw (skip_blanks (k ++ z) ba, skip_key z head)
    (key_or_head _ z head ∙ rw (key_complete (key_before_blanks 58 (w ++ (s ++ (v ++ y))) bb kt colon_no_name), colon_and_value (read d) (v ++ y) bb bw h e, skip_blanks y bv) refl)

after_pair_comma : (u : List ℕ) (escape_free : Bool) (t : Tree) (ps : Members) (d k : ℕ) (x r : List ℕ) → read_members (read d) k x ≡ got ps r → after_pair_blanks (read_members (read d) k) u escape_free t (44 ∷ x) ≡ got (member u escape_free t ps) r
after_pair_comma u escape_free t ps d k x r e = rw (skip_comma x) (ap (λ q. and_then q (λ ps x. got (member u escape_free t ps) x)) e)

at_brace : (u : List ℕ) (escape_free : Bool) (t : Tree) (d k : ℕ) (r : List ℕ) → after_pair_blanks (read_members (read d) k) u escape_free t (125 ∷ r) ≡ got (member u escape_free t no_member) r
at_brace u escape_free t d k r = rw (skip_brace r) refl

pub regroup_pair : (a k b w s v y : List ℕ) → (a ++ (k ++ (b ++ 58 ∷ (w ++ (s ++ v))))) ++ y ≡ a ++ (k ++ (b ++ 58 ∷ (w ++ (s ++ (v ++ y)))))
regroup_pair a k b w s v y = simp append_assoc

shorter_pair : (p m r : List ℕ) (k : ℕ) → length ((p ++ 44 ∷ m) ++ r) < suc k → length (m ++ r) < k
shorter_pair p m r k h = let e = ap length (append_assoc p (44 ∷ m) r) in omega (arith, e, length-append p (44 ∷ (m ++ r)))

-- ---- values

mutual
  -- a value in front is read, whatever follows where it stops
  pub read_complete : {s : List ℕ} {t : Tree} → Val s t → (r : List ℕ) → Stops s r → (d : ℕ) → depth t ≤ d → read d (s ++ r) ≡ got t r
  read_complete is_null r st d l = read_null d r
  read_complete is_true r st d l = read_true d r
  read_complete is_false r st d l = read_false d r
  read_complete (is_number n) r st d l = read_number d r n st
  read_complete (is_text k) r st d l = read_text d r k
  read_complete (is_empty_array b) r st zero l = absurd (omega arith)
  read_complete (is_empty_array {w = w} b) r st (suc d) l = read_bracket d w r no_more (λ n h. items_close (read d) n r h b)
  read_complete (is_array ms) r st zero l = absurd (omega arith)
  read_complete (is_array {m = m} {ts = ts} ms) r st (suc d) l = read_bracket d m r ts (λ n h. members_complete ms r d (omega arith) n h)
  read_complete (is_empty_object b) r st zero l = absurd (omega arith)
  read_complete (is_empty_object {w = w} b) r st (suc d) l = read_brace d w r no_member (λ n h. entries_close (read d) n r h b)
  read_complete (is_object ps) r st zero l = absurd (omega arith)
  read_complete (is_object {m = m} {ps = qs} ps) r st (suc d) l = read_brace d m r qs (λ n h. entries_complete ps r d (omega arith) n h)

  -- elements and the closing bracket are read; more turns than characters are enough
  pub members_complete : {m : List ℕ} {ts : Trees} → ElementList m ts → (r : List ℕ) → (d : ℕ) → depths ts ≤ d → (n : ℕ) → length (m ++ 93 ∷ r) < n → read_elements (read d) n (m ++ 93 ∷ r) ≡ got ts r
  members_complete (last bw vs bv lc) r d l zero h = absurd (omega arith)
  members_complete (last {w = w} {s = s} {v = v} {t = t} bw vs bv no_last_comma) r d l (suc k) h =
      ap (read_elements (read d) (suc k)) (regroup w s v [] (93 ∷ r))
      ∙ items_member d k (93 ∷ r) bw (val_head vs) bv (read_complete vs (v ++ 93 ∷ r) (stops_blanks s 93 r bv bracket_ends_values) d (omega arith))
      ∙ at_close t d k r
  members_complete (last {w = w} {s = s} {v = v} {t = t} bw vs bv (last_comma {w = u} bu)) r d l (suc k) h =
      ap (read_elements (read d) (suc k)) (regroup w s v (44 ∷ u) (93 ∷ r))
      ∙ items_member d k (44 ∷ (u ++ 93 ∷ r)) bw (val_head vs) bv (read_complete vs (v ++ 44 ∷ (u ++ 93 ∷ r)) (stops_blanks s 44 (u ++ 93 ∷ r) bv comma_ends_values) d (omega arith))
      ∙ after_comma t no_more d k (u ++ 93 ∷ r) r (items_close (read d) k r (shorter w s v u (93 ∷ r) k h) bu)
  members_complete (next bw vs bv ms) r d l zero h = absurd (omega arith)
  members_complete (next {w = w} {s = s} {v = v} {m = m} {t = t} {ts = ts} bw vs bv ms) r d l (suc k) h =
      ap (read_elements (read d) (suc k)) (regroup w s v (44 ∷ m) (93 ∷ r))
      ∙ items_member d k (44 ∷ (m ++ 93 ∷ r)) bw (val_head vs) bv (read_complete vs (v ++ 44 ∷ (m ++ 93 ∷ r)) (stops_blanks s 44 (m ++ 93 ∷ r) bv comma_ends_values) d (omega arith))
      ∙ after_comma t ts d k (m ++ 93 ∷ r) r (members_complete ms r d (omega arith) k (shorter w s v m (93 ∷ r) k h))

  -- pairs and the closing brace are read
  pub entries_complete : {m : List ℕ} {ps : Members} → MemberList m ps → (r : List ℕ) → (d : ℕ) → member_depths ps ≤ d → (n : ℕ) → length (m ++ 125 ∷ r) < n → read_members (read d) n (m ++ 125 ∷ r) ≡ got ps r
  entries_complete (last_member e lc) r d l zero h = absurd (omega arith)
  entries_complete (last_member {p = p} {u = u} {escape_free = escape_free} {t = t} e no_last_comma) r d l (suc k) h =
      ap (read_members (read d) (suc k)) (append_assoc p [] (125 ∷ r))
      ∙ entry_complete e 125 r brace_ends_values d (omega arith) k
      ∙ at_brace u escape_free t d k r
  entries_complete (last_member {p = p} {u = u} {escape_free = escape_free} {t = t} e (last_comma {w = w} bw)) r d l (suc k) h =
      ap (read_members (read d) (suc k)) (append_assoc p (44 ∷ w) (125 ∷ r))
      ∙ entry_complete e 44 (w ++ 125 ∷ r) comma_ends_values d (omega arith) k
      ∙ after_pair_comma u escape_free t no_member d k (w ++ 125 ∷ r) r (entries_close (read d) k r (shorter_pair p w (125 ∷ r) k h) bw)
  entries_complete (next_member e ps) r d l zero h = absurd (omega arith)
  entries_complete (next_member {p = p} {m = m} {u = u} {escape_free = escape_free} {t = t} {ps = qs} e ps) r d l (suc k) h =
      ap (read_members (read d) (suc k)) (append_assoc p (44 ∷ m) (125 ∷ r))
      ∙ entry_complete e 44 (m ++ 125 ∷ r) comma_ends_values d (omega arith) k
      ∙ after_pair_comma u escape_free t qs d k (m ++ 125 ∷ r) r (entries_complete ps r d (omega arith) k (shorter_pair p m (125 ∷ r) k h))

  -- a pair is read, up to the character after it
  pub entry_complete : {p u : List ℕ} {escape_free : Bool} {t : Tree} → Member p u escape_free t → (c : ℕ) (y : List ℕ) → EndsValues c → (d : ℕ) → depth t ≤ d → (n : ℕ)
      → read_members (read d) (suc n) (p ++ c ∷ y) ≡ after_pair_blanks (read_members (read d) n) u escape_free t (c ∷ y)
  entry_complete (entry {a = a} {k = k} {b = b} {w = w} {s = s} {v = v} ba kt bb bw vs bv) c y ends d l n =
      ap (read_members (read d) (suc n)) (regroup_pair a k b w s v (c ∷ y))
      ∙ entries_pair d n (c ∷ y) ba kt bb bw (val_head vs) bv (read_complete vs (v ++ c ∷ y) (stops_blanks s c y bv ends) d l)
