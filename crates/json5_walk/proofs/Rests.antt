-- What each token does in front of any rest.
use Rattle.std.proofs.Common.{◌≡◌, ℕ, suc, ◌≤◌, Bool, true, false, List, [], ◌∷◌, ◌++◌, length, refl, ap, sym, ◌∙◌, append_assoc, arith, subst, inl, inr}
use Rattle.std.specs.Prelude.{◌==◌}
use Rattle.std.proofs.lemmas.Bool.{eqb-false}
use Rattle.json5_grammar.specs.Faults.Fronts.{BracketKind}
use Rattle.json5_grammar.specs.Language.Blanks.{Blanks, LastBlanks, Gap, at_end, is_solid, Solid}
use Rattle.json5_grammar.specs.Language.Names.{Key}
use Rattle.json5_grammar.specs.Language.Trees.{Tree, array, object, Trees, Members, no_more, more, no_member, member, depth, depths, member_depths}
use Rattle.json5_grammar.specs.Language.Values.{Val, Stops, Reads}
use Rattle.json5_grammar.specs.Model.Collections.{IsSign, ReadsKey, Tail, MembersTail, joined_trees, joined_members, snoc, snoc_member}
use Rattle.json5_grammar.proofs.BlanksSound.{LastBlanks-append, gap_last}
use Rattle.json5_grammar.proofs.ArraysRead.{bracket_solid, opening_solid, one_sign, reads_after, tail_comma, array_reads}
use Rattle.json5_grammar.proofs.ObjectsRead.{colon_solid, opening_brace_solid, pairs_comma, object_reads, value_left}
use Rattle.json5_grammar.proofs.OneTree.{one_phrase}
use Rattle.json5_grammar.proofs.ArraysPartlyRead.{same_sign, element_left}
use Rattle.json5_grammar.proofs.CharacterClasses.{EndsValues, colon_no_name, comma_ends_values, bracket_ends_values, brace_ends_values}
use Rattle.json5_grammar.proofs.ValueHeads.{val_head, stops_blanks, stops_last, key_before_blanks, key_spelling}
use Rattle.json5_grammar.proofs.ValuesSound.{sign_gap, tail_gap, pairs_gap}
use Rattle.json5_read.specs.Brackets.{bracket_of, brackets_of}
use Rattle.json5_read.specs.declared.brackets.BracketKind.{BracketKind as Kind}
use Rattle.json5_read.specs.declared.brackets.BracketKind.TheVariants as kind
use Rattle.json5_walk.specs.declared.next.Next.{Next}
use Rattle.json5_walk.specs.declared.next.Next.TheVariants as next
use Rattle.json5_walk.specs.Nexts.{takes_value}
use Rattle.json5_walk.specs.Seams.{is_punctuator, WholeTokens, then_blanks, then_punctuator, then_key, then_value, as_unended, is_unended}
use Rattle.json5_walk.specs.Frames.{Frame, in_array, in_object, Fits, Until, text_end, value_end, Last, ClosesUntil, At, at_value, at_element, at_key, at_colon, at_comma, next_of, frame_kinds, kinds_of, value_frames, is_inner, takes_blanks, CompletesUntil}
use Rattle.json5_walk.specs.Moves.{Stays, stays, Opens, opens_array, opens_object, TakesKeyOf, takes_key, TakesColon, takes_colon, TakesComma, after_element, after_member, Closes, closes_elements, closes_array, closes_members, closes_object}
use Rattle.json5_walk.specs.Walks.{member_next, may_close}
use Rattle.json5_walk.proofs.Determined.{value_left_over, tail_left, pairs_left, sign_left, tail_after_comma, pairs_after_comma, none_left, no_member_left, array_opened_left, object_opened_left}
use Rattle.std.specs.Str.{encode_utf8_all}

-- ---- what follows a value ends it

sign_stops : (c : ℕ) (x r s : List ℕ) → EndsValues c → IsSign c x r → Stops s x
sign_stops c x r s h a = subst (Stops s) (sym a.split) (stops_blanks s c r a.blank h)

tail_stops : (ts : Trees) (x r s : List ℕ) → Tail ts true x r → Stops s x
tail_stops no_more x r s (inl a) = sign_stops 93 x r s bracket_ends_values a
tail_stops no_more x r s (inr (y, a, b)) = sign_stops 44 x y s comma_ends_values a
tail_stops (more t ts) x r s (y, (z, a, p), tl) = sign_stops 44 x z s comma_ends_values a

members_stops : (ps : Members) (x r s : List ℕ) → MembersTail ps true x r → Stops s x
members_stops no_member x r s (inl a) = sign_stops 125 x r s brace_ends_values a
members_stops no_member x r s (inr (y, a, b)) = sign_stops 44 x y s comma_ends_values a
members_stops (member u e t ps) x r s (y, z, (w, a, k), v, tl) = sign_stops 44 x w s comma_ends_values a

-- ---- gaps

no_text : (f : List ℕ) (c : ℕ) (m r : List ℕ) → [] ≡ f ++ ((c ∷ m) ++ r) → ⊥
no_text [] c m r e = cc
no_text (a ∷ f) c m r e = cc

pub append_nil : (w : List ℕ) → w ++ [] ≡ w
append_nil [] = refl
append_nil (c ∷ w) = ap (λ z. c ∷ z) (append_nil w)

-- a gap before one rest is one before another, which is empty if that one is
pub other_gap : {w y z : List ℕ} → Gap w y → (y ≡ [] → z ≡ []) → Gap w z
other_gap (Gap.blanks b) k = Gap.blanks b
other_gap {w = w} (at_end l) k = subst (Gap w) (sym (k refl)) (at_end l)

pub reads_gap : {w y r : List ℕ} {t : Tree} → Gap w y → Reads y t r → Reads (w ++ y) t r
reads_gap {w = w} {y = y} {r = r} {t = t} (Gap.blanks b) p = reads_after w y r t b p
reads_gap {r = r} (at_end l) p = let h = val_head p.value in absurd (no_text p.front h.char h.more r (p.split ∙ ap (λ z. p.front ++ (z ++ r)) h.is))

last_gap : {w y : List ℕ} → Gap w y → LastBlanks y → LastBlanks (w ++ y)
last_gap (Gap.blanks b) l = LastBlanks-append b l
last_gap {w = w} (at_end m) l = subst LastBlanks (sym (append_nil w)) m

-- a token that is a value
pub token_reads : (x s r : List ℕ) (t : Tree) → x ≡ s ++ r → Val s t → Stops s r → Reads x t r
token_reads x s r t e v st = record { front = []; phrase = s; split = e; blank = Blanks.empty; value = v; stops = st }

-- ---- lists of trees

joined_one : (ts us : Trees) (t : Tree) → joined_trees (snoc ts t) us ≡ joined_trees ts (more t us)
joined_one no_more us t = refl
joined_one (more s ts) us t = ap (λ z. more s z) (joined_one ts us t)

joined_one_member : (ps qs : Members) (u : List ℕ) (e : Bool) (t : Tree) → joined_members (snoc_member ps u e t) qs ≡ joined_members ps (member u e t qs)
joined_one_member no_member qs u e t = refl
joined_one_member (member k b s ps) qs u e t = ap (λ z. member k b s z) (joined_one_member ps qs u e t)

joined_none : (ts : Trees) → joined_trees ts no_more ≡ ts
joined_none no_more = refl
joined_none (more t ts) = ap (λ z. more t z) (joined_none ts)

joined_no_member : (ps : Members) → joined_members ps no_member ≡ ps
joined_no_member no_member = refl
joined_no_member (member u e t ps) = ap (λ z. member u e t z) (joined_no_member ps)

snoc_last : (ts : Trees) (t : Tree) → joined_trees ts (more t no_more) ≡ snoc ts t
snoc_last ts t = sym (joined_one ts no_more t) ∙ joined_none (snoc ts t)

snoc_last_member : (ps : Members) (u : List ℕ) (e : Bool) (t : Tree) → joined_members ps (member u e t no_member) ≡ snoc_member ps u e t
snoc_last_member ps u e t = sym (joined_one_member ps no_member u e t) ∙ joined_no_member (snoc_member ps u e t)

-- ---- frames

pub frames_count : (o : List Frame) → length (frame_kinds o) ≡ length o
frames_count [] = refl
frames_count (in_array ts ∷ o) = ap suc (frames_count o)
frames_count (in_object ps u e ∷ o) = ap suc (frames_count o)

pub value_kinds : (a : At) → true ≡ takes_value (next_of a) → frame_kinds (value_frames a) ≡ kinds_of a
value_kinds (at_value o) v = refl
value_kinds (at_element ts o) v = refl
value_kinds (at_key ps o) v = absurd (cc)
value_kinds (at_colon ps u e o) v = absurd (cc)
value_kinds (at_comma s o) v = absurd (cc)

pub value_count : (a : At) → true ≡ takes_value (next_of a) → length (kinds_of a) ≡ length (value_frames a)
value_count a v = sym (ap length (value_kinds a v)) ∙ frames_count (value_frames a)

pub inner_value : (a : At) → true ≡ takes_value (next_of a) → is_inner a ≡ true
inner_value (at_value o) v = refl
inner_value (at_element ts o) v = refl
inner_value (at_key ps o) v = absurd (cc)
inner_value (at_colon ps u e o) v = absurd (cc)
inner_value (at_comma s o) v = absurd (cc)

-- ---- whole tokens

gap_tokens : {g y x : List ℕ} {unended : Bool} → Gap g y → (y ≡ [] → ⊥) → WholeTokens unended x → WholeTokens unended (x ++ g)
gap_tokens (Gap.blanks b) n h = then_blanks h b
gap_tokens (at_end l) n h = absurd (n refl)

-- a value is due after what has ended
pub before_value : {x : List ℕ} (a : At) → true ≡ takes_value (next_of a) → WholeTokens (is_unended a) x → WholeTokens false x
before_value (at_value o) v h = h
before_value (at_element ts o) v h = h
before_value (at_key ps o) v h = absurd (cc)
before_value (at_colon ps u e o) v h = absurd (cc)
before_value (at_comma t o) v h = absurd (cc)

value_tokens : {g s : List ℕ} {t : Tree} (x : List ℕ) → Blanks g → Val s t → WholeTokens false x → WholeTokens true (x ++ (g ++ s))
value_tokens {g = g} {s = s} x b v h = subst (WholeTokens true) (append_assoc x g s) (then_value (then_blanks h b) v)

key_tokens : {g k r u : List ℕ} {e : Bool} (x : List ℕ) → Blanks g → Key k r u e → WholeTokens false x → WholeTokens true (x ++ (g ++ k))
key_tokens {g = g} {k = k} x b q h = subst (WholeTokens true) (append_assoc x g k) (then_key (then_blanks h b) (key_spelling q))

sign_tokens : {c : ℕ} {z y : List ℕ} {unended : Bool} (x : List ℕ) (p : IsSign c z y) → is_punctuator c ≡ true → WholeTokens unended x → WholeTokens false (x ++ (p.front ++ c ∷ []))
sign_tokens {c = c} x p is h = subst (WholeTokens false) (append_assoc x p.front (c ∷ [])) (then_punctuator c (then_blanks h p.blank) is)

-- ---- what ends a text

last_stops : (e : Until) (x s : List ℕ) → Last e x → Stops s x
last_stops text_end x s l = stops_last s l
last_stops value_end x s l = subst (Stops s) (sym l) tt

pub no_rest : (g y : List ℕ) → g ++ y ≡ [] → y ≡ []
no_rest [] y e = e
no_rest (c ∷ g) y e = let k : c ∷ (g ++ y) ≡ [] = e in absurd (cc)

last_left : (e : Until) (g y : List ℕ) → Gap g y → Solid y → Last e (g ++ y) → Last e y
last_left text_end g y b s l = subst LastBlanks (sym (gap_last (g ++ y) g y l b s refl).1) (LastBlanks.blanks Blanks.empty)
last_left value_end g y b s l = no_rest g y l

module _ (limit : ℕ) where
  -- whatever value comes before it
  closes_stops : (e : Until) (o : List Frame) (x s : List ℕ) (t w : Tree) → ClosesUntil e limit o t x w → Stops s x
  closes_stops e [] x s t w (l, is) = last_stops e x s l
  closes_stops e (in_array ts ∷ o) x s t w (us, r, tl, f, h) = tail_stops us x r s tl
  closes_stops e (in_object ps u b ∷ o) x s t w (qs, r, tl, f, h) = members_stops qs x r s tl

  -- what is taken leads to what is expected then, and from what was due to what is left of it
  pub record Move (a : At) (s y : List ℕ) (m : Next) (p : List BracketKind) (Step : At → At → Type 0) : Type 0 where
    pub to : At
    pub is : Step a to
    pub is_next : next_of to ≡ m
    pub is_kinds : kinds_of to ≡ p
    pub inner : is_inner to ≡ true → is_inner a ≡ true
    pub tokens : (x : List ℕ) → (y ≡ [] → ⊥) → WholeTokens (is_unended a) x → WholeTokens (is_unended to) (x ++ s)
    pub step : (e : Until) (z : List ℕ) (w : Tree) → takes_blanks e to ≡ true → (y ≡ [] → z ≡ []) → CompletesUntil e limit to z w → CompletesUntil e limit a (s ++ z) w
    pub back : (e : Until) (w : Tree) → CompletesUntil e limit a (s ++ y) w → CompletesUntil e limit to y w

  module _ (e : Until) (g z : List ℕ) (b : Gap g z) where
    closes_gap : (o : List Frame) (t w : Tree) → takes_blanks e (at_comma t o) ≡ true → ClosesUntil e limit o t z w → ClosesUntil e limit o t (g ++ z) w
    closes_gap [] t w k (l, is) = (last_before e k l, is)
      where
        last_before : (e : Until) → takes_blanks e (at_comma t []) ≡ true → Last e z → Last e (g ++ z)
        last_before text_end k l = last_gap b l
        last_before value_end k l = absurd (cc)
    closes_gap (in_array ts ∷ o) t w k (us, r, tl, f, h) = (us, r, tail_gap us true g (g ++ z) z r refl b tl, f, h)
    closes_gap (in_object ps u c ∷ o) t w k (qs, r, tl, f, h) = (qs, r, pairs_gap qs true g (g ++ z) z r refl b tl, f, h)

    completes_gap : (a : At) (w : Tree) → takes_blanks e a ≡ true → CompletesUntil e limit a z w → CompletesUntil e limit a (g ++ z) w
    completes_gap (at_value o) w k (t, r, p, f, h) = (t, r, reads_gap b p, f, h)
    completes_gap (at_element ts o) w k (us, r, tl, f, h) = (us, r, tail_gap us false g (g ++ z) z r refl b tl, f, h)
    completes_gap (at_key ps o) w k (qs, r, tl, f, h) = (qs, r, pairs_gap qs false g (g ++ z) z r refl b tl, f, h)
    completes_gap (at_colon ps u c o) w k (t, r, (y, s, p), f, h) = (t, r, (y, sign_gap 58 g (g ++ z) z y refl b s, p), f, h)
    completes_gap (at_comma t o) w k h = closes_gap o t w k h

  module _ (e : Until) (g y : List ℕ) (b : Gap g y) (s : Solid y) where
    closes_left : (o : List Frame) (t w : Tree) → ClosesUntil e limit o t (g ++ y) w → ClosesUntil e limit o t y w
    closes_left [] t w (l, is) = (last_left e g y b s l, is)
    closes_left (in_array ts ∷ o) t w (us, r, tl, f, h) = (us, r, tail_left g y b s us true r tl, f, h)
    closes_left (in_object ps u c ∷ o) t w (qs, r, tl, f, h) = (qs, r, pairs_left g y b s qs true r tl, f, h)

    gap_left : (a : At) (w : Tree) → CompletesUntil e limit a (g ++ y) w → CompletesUntil e limit a y w
    gap_left (at_value o) w (t, r, p, f, h) = (t, r, value_left_over g y b s r t p, f, h)
    gap_left (at_element ts o) w (us, r, tl, f, h) = (us, r, tail_left g y b s us false r tl, f, h)
    gap_left (at_key ps o) w (qs, r, tl, f, h) = (qs, r, pairs_left g y b s qs false r tl, f, h)
    gap_left (at_colon ps u c o) w (t, r, (z, a, p), f, h) = (t, r, (z, sign_left g y b s 58 z colon_solid a, p), f, h)
    gap_left (at_comma t o) w h = closes_left o t w h

  pub gap_move : (a : At) (g y : List ℕ) → Gap g y → Solid y → Move a g y (next_of a) (kinds_of a) Stays
  gap_move a g y b s = record {
    to = a;
    is = stays a;
    is_next = refl;
    is_kinds = refl;
    inner = λ h. h;
    tokens = λ x n h. gap_tokens b n h;
    step = λ e z w h k c. completes_gap e g z (other_gap b k) a w h c;
    back = λ e w c. gap_left e g y b s a w c;
  }

  -- ---- values and keys

  -- a value after blanks, before any rest that closes the brackets
  reads_again : (g s z : List ℕ) (t : Tree) → Blanks g → Val s t → Stops s z → Reads ((g ++ s) ++ z) t z
  reads_again g s z t b v st = record { front = g; phrase = s; split = append_assoc g s z; blank = b; value = v; stops = st }

  pub value_completes : (e : Until) (a : At) (g s z : List ℕ) (t w : Tree) → true ≡ takes_value (next_of a) → Blanks g → Val s t → Fits limit (length (value_frames a)) (depth t) → ClosesUntil e limit (value_frames a) t z w → CompletesUntil e limit a ((g ++ s) ++ z) w
  value_completes e (at_value o) g s z t w v b p f c = (t, z, reads_again g s z t b p (closes_stops e o z s t w c), f, c)
  value_completes e (at_element ts o) g s z t w v b p f (us, r, tl, d, h) =
      (more t us, r, (z, reads_again g s z t b p (tail_stops us z r s tl), tl), omega (arith, f, d), h)
  value_completes e (at_key ps o) g s z t w v b p f c = absurd (cc)
  value_completes e (at_colon ps u q o) g s z t w v b p f c = absurd (cc)
  value_completes e (at_comma q o) g s z t w v b p f c = absurd (cc)

  -- the value that was due is the one in front
  pub value_due : (e : Until) (a : At) (x y : List ℕ) (t w : Tree) → true ≡ takes_value (next_of a) → Reads x t y → CompletesUntil e limit a x w → ClosesUntil e limit (value_frames a) t y w
  value_due e (at_value o) x y t w v p (u, r, q, f, h) =
      let one = one_phrase x r y u t q p in
      subst (λ z. ClosesUntil e limit o z y w) one.0 (subst (λ z. ClosesUntil e limit o u z w) one.1 h)
  value_due e (at_element ts o) x y t w v p (us, r, tl, f, h) =
      let (vs, is, left) = element_left us false x y r t p tl in
      let fits : Fits limit (suc (length o)) (depths (more t vs)) = subst (λ z. Fits limit (suc (length o)) (depths z)) is f in
      (vs, r, left, omega (arith, fits), subst (λ z. ClosesUntil e limit o (array (joined_trees ts z)) r w) is h)
  value_due e (at_key ps o) x y t w v p c = absurd (cc)
  value_due e (at_colon ps u q o) x y t w v p c = absurd (cc)
  value_due e (at_comma q o) x y t w v p c = absurd (cc)

  pub value_move : {x y : List ℕ} (a : At) (t : Tree) (Step : At → At → Type 0) → Step a (at_comma t (value_frames a)) → true ≡ takes_value (next_of a) → (p : Reads x t y) → Fits limit (length (value_frames a)) (depth t) → Move a (p.front ++ p.phrase) y next.Comma (kinds_of a) Step
  value_move {y = y} a t Step is v p f = record {
    to = at_comma t (value_frames a);
    is = is;
    is_next = refl;
    is_kinds = value_kinds a v;
    inner = λ h. inner_value a v;
    tokens = λ x n h. value_tokens x p.blank p.value (before_value a v h);
    step = λ e z w h k c. value_completes e a p.front p.phrase z t w v p.blank p.value f c;
    back = λ e w c. value_due e a ((p.front ++ p.phrase) ++ y) y t w v (reads_again p.front p.phrase y t p.blank p.value p.stops) c;
  }

  -- a key before what may follow one
  key_again : (g s y u : List ℕ) (e : Bool) → Blanks g → Key s y u e → ReadsKey ((g ++ s) ++ y) u e y
  key_again g s y u e b k = record { front = g; spelling = s; split = append_assoc g s y; blank = b; key = k }

  key_completes : (e : Until) (ps : Members) (o : List Frame) (g s y u z : List ℕ) (b : Bool) (w : Tree) → Blanks g → Key s y u b → CompletesUntil e limit (at_colon ps u b o) z w → CompletesUntil e limit (at_key ps o) ((g ++ s) ++ z) w
  key_completes e ps o g s y u z b w bl k (t, r, (v, a, p), f, (qs, q, tl, d, h)) =
      let reads : ReadsKey ((g ++ s) ++ z) u b z = key_again g s z u b bl (subst (λ x. Key s x u b) (sym a.split) (key_before_blanks 58 v a.blank (key_spelling k) colon_no_name)) in
      (member u b t qs, q, (z, r, reads, (v, a, p), tl), omega (arith, f, d), h)

  key_due : (e : Until) (ps : Members) (o : List Frame) (x y u : List ℕ) (b : Bool) (w : Tree) → ReadsKey x u b y → CompletesUntil e limit (at_key ps o) x w → CompletesUntil e limit (at_colon ps u b o) y w
  key_due e ps o x y u b w k (qs, r, tl, f, h) =
      let (t, ms, z, is, v, left) = value_left qs false x y r u b k tl in
      let fits : Fits limit (suc (length o)) (member_depths (member u b t ms)) = subst (λ m. Fits limit (suc (length o)) (member_depths m)) is f in
      (t, z, v, omega (arith, fits), (ms, r, left, omega (arith, fits), subst (λ m. ClosesUntil e limit o (object (joined_members ps m)) r w) is h))

  pub key_move : {x y u : List ℕ} {e : Bool} (a : At) (bytes : List ℕ) → next_of a ≡ next.Key → bytes ≡ encode_utf8_all u → (k : ReadsKey x u e y) → Move a (k.front ++ k.spelling) y next.Colon (kinds_of a) (TakesKeyOf bytes)
  key_move {y = y} {u = u} {e = e} (at_key ps o) bytes is eq k = record {
    to = at_colon ps u e o;
    is = takes_key ps u e o eq;
    is_next = refl;
    is_kinds = refl;
    inner = λ h. refl;
    tokens = λ x n h. key_tokens x k.blank k.key h;
    step = λ end z w h n c. key_completes end ps o k.front k.spelling y u z e w k.blank k.key c;
    back = λ end w c. key_due end ps o ((k.front ++ k.spelling) ++ y) y u e w (key_again k.front k.spelling y u e k.blank k.key) c;
  }
  key_move (at_value o) bytes is eq k = absurd (cc)
  key_move (at_element ts o) bytes is eq k = absurd (cc)
  key_move (at_colon ps q b o) bytes is eq k = absurd (cc)
  key_move (at_comma t o) bytes is eq k = absurd (cc)

  -- ---- signs

  -- the sign after the same blanks, before any rest
  sign_again : {c : ℕ} {x y : List ℕ} (p : IsSign c x y) (z : List ℕ) → IsSign c ((p.front ++ c ∷ []) ++ z) z
  sign_again {c = c} p z = record { front = p.front; split = append_assoc p.front (c ∷ []) z; blank = p.blank }

  pub colon_move : {x y : List ℕ} (a : At) → next_of a ≡ next.Colon → (p : IsSign 58 x y) → Move a (p.front ++ 58 ∷ []) y next.Value (kinds_of a) TakesColon
  colon_move {y = y} (at_colon ps u b o) is p = record {
    to = at_value (in_object ps u b ∷ o);
    is = takes_colon ps u b o;
    is_next = refl;
    is_kinds = refl;
    inner = λ h. refl;
    tokens = λ x n h. sign_tokens x p refl h;
    step = λ e z w n k (t, r, q, f, h). (t, r, (z, sign_again p z, q), f, h);
    back = λ e w (t, r, (z, a, q), f, h). (t, r, subst (λ m. Reads m t r) (same_sign 58 ((p.front ++ 58 ∷ []) ++ y) z y colon_solid a (sign_again p y)) q, f, h);
  }
  colon_move (at_value o) is p = absurd (cc)
  colon_move (at_element ts o) is p = absurd (cc)
  colon_move (at_key ps o) is p = absurd (cc)
  colon_move (at_comma t o) is p = absurd (cc)

  pub comma_move : {x y : List ℕ} (a : At) (k : Kind) (o : List BracketKind) → next_of a ≡ next.Comma → kinds_of a ≡ bracket_of k ∷ o → (p : IsSign 44 x y) → Move a (p.front ++ 44 ∷ []) y (member_next k) (kinds_of a) TakesComma
  comma_move {y = y} (at_comma t (in_array ts ∷ o)) kind.Array l is eq p = record {
    to = at_element (snoc ts t) o;
    is = after_element ts t o;
    is_next = refl;
    is_kinds = refl;
    inner = λ h. refl;
    tokens = λ x n h. sign_tokens x p refl h;
    step = λ e z w n k (us, r, tl, f, h). (us, r, tail_comma us ((p.front ++ 44 ∷ []) ++ z) z r (sign_again p z) tl, f, subst (λ x. ClosesUntil e limit o (array x) r w) (joined_one ts us t) h);
    back = λ e w (us, r, tl, f, h). (us, r, tail_after_comma us ((p.front ++ 44 ∷ []) ++ y) y r (sign_again p y) tl, f, subst (λ x. ClosesUntil e limit o (array x) r w) (sym (joined_one ts us t)) h);
  }
  comma_move {y = y} (at_comma t (in_object ps u b ∷ o)) kind.Object l is eq p = record {
    to = at_key (snoc_member ps u b t) o;
    is = after_member ps u b t o;
    is_next = refl;
    is_kinds = refl;
    inner = λ h. refl;
    tokens = λ x n h. sign_tokens x p refl h;
    step = λ e z w n k (qs, r, tl, f, h). (qs, r, pairs_comma qs ((p.front ++ 44 ∷ []) ++ z) z r (sign_again p z) tl, f, subst (λ x. ClosesUntil e limit o (object x) r w) (joined_one_member ps qs u b t) h);
    back = λ e w (qs, r, tl, f, h). (qs, r, pairs_after_comma qs ((p.front ++ 44 ∷ []) ++ y) y r (sign_again p y) tl, f, subst (λ x. ClosesUntil e limit o (object x) r w) (sym (joined_one_member ps qs u b t)) h);
  }
  comma_move (at_comma t (in_array ts ∷ o)) kind.Object l is eq p = absurd (cc)
  comma_move (at_comma t (in_object ps u b ∷ o)) kind.Array l is eq p = absurd (cc)
  comma_move (at_comma t []) k l is eq p = absurd (cc)
  comma_move (at_value o) k l is eq p = absurd (cc)
  comma_move (at_element ts o) k l is eq p = absurd (cc)
  comma_move (at_key ps o) k l is eq p = absurd (cc)
  comma_move (at_colon ps u b o) k l is eq p = absurd (cc)

  -- the elements that were due begin with a collection
  pub element_due : (e : Until) (ts : Trees) (o : List Frame) (x z : List ℕ) (t w : Tree) → Reads x t z → CompletesUntil e limit (at_element ts o) x w → Fits limit (suc (length o)) (depth t) × ClosesUntil e limit (in_array ts ∷ o) t z w
  element_due e ts o x z t w p (us, r, tl, f, h) =
      let (vs, is, left) = element_left us false x z r t p tl in
      let fits : Fits limit (suc (length o)) (depths (more t vs)) = subst (λ m. Fits limit (suc (length o)) (depths m)) is f in
      (omega (arith, fits), (vs, r, left, omega (arith, fits), subst (λ m. ClosesUntil e limit o (array (joined_trees ts m)) r w) is h))

  -- an element comes where the closing bracket doesn't
  pub first_due : (e : Until) (ts : Trees) (o : List Frame) (x : List ℕ) (w : Tree) → ((r : List ℕ) → IsSign 93 x r → ⊥) → CompletesUntil e limit (at_element ts o) x w → (t : Tree) × (z : List ℕ) × Reads x t z
  first_due e ts o x w n (no_more, r, tl, f, h) = absurd (n r tl)
  first_due e ts o x w n (more t us, r, (z, p, tl), f, h) = (t, z, p)

  not_closed : (c : ℕ) (x y r : List ℕ) → is_solid c ≡ true → (c == 93) ≡ false → IsSign c x y → IsSign 93 x r → ⊥
  not_closed c x y r s n a b = eqb-false c 93 n (one_sign c 93 x y r s bracket_solid a b).0

  array_due : (e : Until) (o : List Frame) (x y r : List ℕ) (t w : Tree) → IsSign 91 x y → Reads x t r → Fits limit (length o) (depth t) → ClosesUntil e limit o t r w → CompletesUntil e limit (at_element no_more o) y w
  array_due e o x y r t w a p f h =
      let (us, is, tl) = array_opened_left x y r t a p in
      let fits : Fits limit (length o) (depth (array us)) = subst (λ m. Fits limit (length o) (depth m)) is f in
      (us, r, tl, omega (arith, fits), subst (λ m. ClosesUntil e limit o m r w) is h)

  object_due : (e : Until) (o : List Frame) (x y r : List ℕ) (t w : Tree) → IsSign 123 x y → Reads x t r → Fits limit (length o) (depth t) → ClosesUntil e limit o t r w → CompletesUntil e limit (at_key no_member o) y w
  object_due e o x y r t w a p f h =
      let (qs, is, tl) = object_opened_left x y r t a p in
      let fits : Fits limit (length o) (depth (object qs)) = subst (λ m. Fits limit (length o) (depth m)) is f in
      (qs, r, tl, omega (arith, fits), subst (λ m. ClosesUntil e limit o m r w) is h)

  pub open_move : {x y : List ℕ} (a : At) (k : Kind) → true ≡ takes_value (next_of a) → (p : IsSign (brackets_of k).opening x y) → Move a (p.front ++ (brackets_of k).opening ∷ []) y (member_next k) (bracket_of k ∷ kinds_of a) (Opens k)
  open_move {y = y} (at_value o) kind.Array v p = record {
    to = at_element no_more o;
    is = opens_array (at_value o) v;
    is_next = refl;
    is_kinds = refl;
    inner = λ h. refl;
    tokens = λ x n h. sign_tokens x p refl h;
    step = λ e z w n k (us, r, tl, f, h). (array us, r, array_reads ((p.front ++ 91 ∷ []) ++ z) z r us (sign_again p z) tl, omega (arith, f), h);
    back = λ e w (t, r, q, f, h). array_due e o ((p.front ++ 91 ∷ []) ++ y) y r t w (sign_again p y) q f h;
  }
  open_move {y = y} (at_value o) kind.Object v p = record {
    to = at_key no_member o;
    is = opens_object (at_value o) v;
    is_next = refl;
    is_kinds = refl;
    inner = λ h. refl;
    tokens = λ x n h. sign_tokens x p refl h;
    step = λ e z w n k (qs, r, tl, f, h). (object qs, r, object_reads ((p.front ++ 123 ∷ []) ++ z) z r qs (sign_again p z) tl, omega (arith, f), h);
    back = λ e w (t, r, q, f, h). object_due e o ((p.front ++ 123 ∷ []) ++ y) y r t w (sign_again p y) q f h;
  }
  open_move {y = y} (at_element ts o) kind.Array v p = record {
    to = at_element no_more (in_array ts ∷ o);
    is = opens_array (at_element ts o) v;
    is_next = refl;
    is_kinds = refl;
    inner = λ h. refl;
    tokens = λ x n h. sign_tokens x p refl h;
    step = λ e z w n k (us, r, tl, f, (vs, q, tail, d, h)). (more (array us) vs, q, (r, array_reads ((p.front ++ 91 ∷ []) ++ z) z r us (sign_again p z) tl, tail), omega (arith, f, d), h);
    back = λ e w c.
        let x : List ℕ = (p.front ++ 91 ∷ []) ++ y in
        let (t, z, q) = first_due e ts o x w (λ r. not_closed 91 x y r opening_solid refl (sign_again p y)) c in
        let (f, h) = element_due e ts o x z t w q c in
        array_due e (in_array ts ∷ o) x y z t w (sign_again p y) q f h;
  }
  open_move {y = y} (at_element ts o) kind.Object v p = record {
    to = at_key no_member (in_array ts ∷ o);
    is = opens_object (at_element ts o) v;
    is_next = refl;
    is_kinds = refl;
    inner = λ h. refl;
    tokens = λ x n h. sign_tokens x p refl h;
    step = λ e z w n k (qs, r, tl, f, (vs, q, tail, d, h)). (more (object qs) vs, q, (r, object_reads ((p.front ++ 123 ∷ []) ++ z) z r qs (sign_again p z) tl, tail), omega (arith, f, d), h);
    back = λ e w c.
        let x : List ℕ = (p.front ++ 123 ∷ []) ++ y in
        let (t, z, q) = first_due e ts o x w (λ r. not_closed 123 x y r opening_brace_solid refl (sign_again p y)) c in
        let (f, h) = element_due e ts o x z t w q c in
        object_due e (in_array ts ∷ o) x y z t w (sign_again p y) q f h;
  }
  open_move (at_key ps o) k v p = absurd (cc)
  open_move (at_colon ps u b o) k v p = absurd (cc)
  open_move (at_comma t o) k v p = absurd (cc)

  -- what closes the brackets after the innermost one, which is closed here
  array_done : (e : Until) (o : List Frame) (ts us : Trees) (due : Bool) (x y r : List ℕ) (w : Tree) → IsSign 93 x y → Tail us due x r → ClosesUntil e limit o (array (joined_trees ts us)) r w → ClosesUntil e limit o (array (joined_trees ts no_more)) y w
  array_done e o ts us due x y r w a tl h =
      let (none, same) = none_left us due x y r a tl in
      subst (λ m. ClosesUntil e limit o (array (joined_trees ts m)) y w) none (subst (λ m. ClosesUntil e limit o (array (joined_trees ts us)) m w) same h)

  object_done : (e : Until) (o : List Frame) (ps qs : Members) (due : Bool) (x y r : List ℕ) (w : Tree) → IsSign 125 x y → MembersTail qs due x r → ClosesUntil e limit o (object (joined_members ps qs)) r w → ClosesUntil e limit o (object (joined_members ps no_member)) y w
  object_done e o ps qs due x y r w a tl h =
      let (none, same) = no_member_left qs due x y r a tl in
      subst (λ m. ClosesUntil e limit o (object (joined_members ps m)) y w) none (subst (λ m. ClosesUntil e limit o (object (joined_members ps qs)) m w) same h)

  pub close_move : {x y : List ℕ} (a : At) (k : Kind) (o : List BracketKind) → length (kinds_of a) ≤ limit → true ≡ may_close k (next_of a) → kinds_of a ≡ bracket_of k ∷ o → (p : IsSign (brackets_of k).closing x y) → Move a (p.front ++ (brackets_of k).closing ∷ []) y next.Comma o Closes
  close_move {y = y} (at_element ts o) kind.Array b l v eq p =
      let k = frames_count o in
      record {
        to = at_comma (array ts) o;
        is = closes_elements ts o;
        is_next = refl;
        is_kinds = cc;
        inner = λ h. refl;
        tokens = λ x n h. as_unended (sign_tokens x p refl h);
        step = λ e z w n m c. (no_more, z, sign_again p z, omega (arith, l, k), subst (λ x. ClosesUntil e limit o (array x) z w) (sym (joined_none ts)) c);
        back = λ e w (us, r, tl, f, h). subst (λ x. ClosesUntil e limit o (array x) y w) (joined_none ts) (array_done e o ts us false ((p.front ++ 93 ∷ []) ++ y) y r w (sign_again p y) tl h);
      }
  close_move {y = y} (at_comma t (in_array ts ∷ o)) kind.Array b l v eq p =
      let k = frames_count o in
      record {
        to = at_comma (array (snoc ts t)) o;
        is = closes_array ts t o;
        is_next = refl;
        is_kinds = cc;
        inner = λ h. refl;
        tokens = λ x n h. as_unended (sign_tokens x p refl h);
        step = λ e z w n m c. (no_more, z, inl (sign_again p z), omega (arith, l, k), subst (λ x. ClosesUntil e limit o (array x) z w) (sym (snoc_last ts t)) c);
        back = λ e w (us, r, tl, f, h). subst (λ x. ClosesUntil e limit o (array x) y w) (joined_none (snoc ts t)) (array_done e o (snoc ts t) us true ((p.front ++ 93 ∷ []) ++ y) y r w (sign_again p y) tl (subst (λ x. ClosesUntil e limit o (array x) r w) (sym (joined_one ts us t)) h));
      }
  close_move {y = y} (at_key ps o) kind.Object b l v eq p =
      let k = frames_count o in
      record {
        to = at_comma (object ps) o;
        is = closes_members ps o;
        is_next = refl;
        is_kinds = cc;
        inner = λ h. refl;
        tokens = λ x n h. as_unended (sign_tokens x p refl h);
        step = λ e z w n m c. (no_member, z, sign_again p z, omega (arith, l, k), subst (λ x. ClosesUntil e limit o (object x) z w) (sym (joined_no_member ps)) c);
        back = λ e w (qs, r, tl, f, h). subst (λ x. ClosesUntil e limit o (object x) y w) (joined_no_member ps) (object_done e o ps qs false ((p.front ++ 125 ∷ []) ++ y) y r w (sign_again p y) tl h);
      }
  close_move {y = y} (at_comma t (in_object ps u q ∷ o)) kind.Object b l v eq p =
      let k = frames_count o in
      record {
        to = at_comma (object (snoc_member ps u q t)) o;
        is = closes_object ps u q t o;
        is_next = refl;
        is_kinds = cc;
        inner = λ h. refl;
        tokens = λ x n h. as_unended (sign_tokens x p refl h);
        step = λ e z w n m c. (no_member, z, inl (sign_again p z), omega (arith, l, k), subst (λ x. ClosesUntil e limit o (object x) z w) (sym (snoc_last_member ps u q t)) c);
        back = λ e w (qs, r, tl, f, h). subst (λ x. ClosesUntil e limit o (object x) y w) (joined_no_member (snoc_member ps u q t)) (object_done e o (snoc_member ps u q t) qs true ((p.front ++ 125 ∷ []) ++ y) y r w (sign_again p y) tl (subst (λ x. ClosesUntil e limit o (object x) r w) (sym (joined_one_member ps qs u q t)) h));
      }
  close_move (at_element ts o) kind.Object b l v eq p = absurd (cc)
  close_move (at_key ps o) kind.Array b l v eq p = absurd (cc)
  close_move (at_comma t (in_array ts ∷ o)) kind.Object b l v eq p = absurd (cc)
  close_move (at_comma t (in_object ps u q ∷ o)) kind.Array b l v eq p = absurd (cc)
  close_move (at_comma t []) k b l v eq p = absurd (cc)
  close_move (at_value o) kind.Array b l v eq p = absurd (cc)
  close_move (at_value o) kind.Object b l v eq p = absurd (cc)
  close_move (at_colon ps u q o) kind.Array b l v eq p = absurd (cc)
  close_move (at_colon ps u q o) kind.Object b l v eq p = absurd (cc)
