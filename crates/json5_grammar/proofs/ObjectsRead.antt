-- An object from its front: it is opened, its members are read one after another, and it is closed.
use Rattle.std.proofs.Common.{◌≡◌, ℕ, ◌+◌, ◌≤◌, ◌<◌, max, Bool, true, false, List, [], ◌∷◌, ◌++◌, length, refl, ap, sym, ◌∙◌, append_assoc, arith, length-append, inl, inr, subst}
use Rattle.std.specs.Prelude.{◌==◌}
use Rattle.std.proofs.lemmas.Bool.{both_ways}
use Rattle.json5_grammar.specs.Language.Blanks.{Blanks, Gap, is_solid}
use Rattle.json5_grammar.specs.Language.Trees.{Tree, Members, object, no_member, member, depth, member_depths}
use Rattle.json5_grammar.specs.Language.Values.{no_last_comma, last_comma, Val, is_empty_object, is_object, MemberList, last_member, next_member, Member, entry, Stops, Reads}
use Rattle.json5_grammar.specs.Model.Collections.{IsSign, OpensObject, ReadsKey, IsKey, IsKeyValue, IsBrace, IsAtBrace, MembersTail, MembersPassed, joined_members, snoc_member}
use Rattle.json5_grammar.proofs.CommonLemmas.{first_same}
use Rattle.json5_grammar.proofs.BlanksRead.{begins_solid, printable_solid}
use Rattle.json5_grammar.proofs.BlanksSound.{one_gap}
use Rattle.json5_grammar.proofs.CharacterClasses.{EndsValues, comma_ends_values, brace_ends_values, colon_no_name}
use Rattle.json5_grammar.proofs.KeysRead
use Rattle.json5_grammar.proofs.ValueHeads.{key_head, key_begins, key_solid, key_before_blanks, key_spelling, stops_blanks}
use Rattle.json5_grammar.proofs.OneTree.{one_phrase}
use Rattle.json5_grammar.proofs.ArraysPartlyRead.{same_sign, after_same_comma, no_comma_end, one_end, sign_ends, sign_shorter, reads_shorter}
use Rattle.json5_grammar.proofs.ValuesRead.{regroup_pair}

-- ---- signs and keys

pub colon_solid : is_solid 58 ≡ true
colon_solid = printable_solid 58 refl refl

pub brace_solid : is_solid 125 ≡ true
brace_solid = printable_solid 125 refl refl

pub opening_brace_solid : is_solid 123 ≡ true
opening_brace_solid = printable_solid 123 refl refl

-- one key goes on, and one rest is left
pub one_reads_key : (x r y u v : List ℕ) (p q : Bool) → ReadsKey x u p r → ReadsKey x v q y → (u ≡ v) × (p ≡ q) × (r ≡ y)
one_reads_key x r y u v p q a b =
    let g = one_gap a.front (a.spelling ++ r) b.front (b.spelling ++ y) (Gap.blanks a.blank) (key_solid r (key_head a.key)) (Gap.blanks b.blank) (key_solid y (key_head b.key)) (sym a.split ∙ b.split) in
    let k = KeysRead.one_key a.key b.key (sym g.1) in
    (k.1, k.2, k.3)

-- where the closing brace goes on no key does
pub brace_no_key : (x r q u : List ℕ) (p : Bool) → IsSign 125 x q → ReadsKey x u p r → ⊥
brace_no_key x r q u p a k =
    let head = key_head k.key in
    let g = one_gap a.front (125 ∷ q) k.front (k.spelling ++ r) (Gap.blanks a.blank) (begins_solid 125 q brace_solid) (Gap.blanks k.blank) (key_solid r head) (sym a.split ∙ k.split) in
    let e : head.char ≡ 125 = first_same head.char 125 (head.more ++ r) q (sym (ap (λ z. z ++ r) head.is) ∙ g.1) in
    both_ways (head.char == 125) (key_begins head.char head.begins).2 (ap (λ z. z == 125) e)

-- ---- one way to go on

-- one opening brace
pub one_opening_brace : (x r q : List ℕ) → OpensObject x r → OpensObject x q → r ≡ q
one_opening_brace x r q a b = same_sign 123 x r q opening_brace_solid a b

-- one key
pub one_key : (comma_due : Bool) (x r y u v : List ℕ) (p q : Bool) → IsKey comma_due x u p r → IsKey comma_due x v q y → (u ≡ v) × (p ≡ q) × (r ≡ y)
one_key false x r y u v p q a b = one_reads_key x r y u v p q a b
one_key true x r y u v p q (k, c, a) (z, d, b) = one_reads_key k r y u v p q a (after_same_comma (λ s. ReadsKey s v q y) x k z c d b)

-- one value of a key
pub one_key_value : (x r q : List ℕ) (t u : Tree) → IsKeyValue x t r → IsKeyValue x u q → (t ≡ u) × (r ≡ q)
one_key_value x r q t u (y, c, a) (z, d, b) = one_phrase y r q t u a (subst (λ k. Reads k u q) (same_sign 58 x z y colon_solid d c) b)

-- one closing brace
pub one_brace : (comma_due : Bool) (x r q : List ℕ) → IsBrace comma_due x r → IsBrace comma_due x q → r ≡ q
one_brace comma_due x r q a b = one_end 125 brace_solid refl comma_due x r q a b

-- a key and the closing brace don't both go on
pub key_or_brace : (comma_due : Bool) (x r q u : List ℕ) (p : Bool) → IsKey comma_due x u p r → IsBrace comma_due x q → ⊥
key_or_brace false x r q u p a b = brace_no_key x r q u p b a
key_or_brace true x r q u p (y, c, a) (inl b) = no_comma_end 125 x y q brace_solid refl c b
key_or_brace true x r q u p (y, c, a) (inr (z, d, b)) = brace_no_key y r q u p (after_same_comma (λ k. IsSign 125 k q) x y z c d b) a

pair_same : (u v : List ℕ) (p q : Bool) (s t : Tree) (ps qs : Members) → u ≡ v → p ≡ q → s ≡ t → ps ≡ qs → member u p s ps ≡ member v q t qs
pair_same u v p q s t ps qs a b c d = cc

-- one list of pairs up to one closing brace
pub one_pairs_tail : (ps qs : Members) (comma_due : Bool) (x r q : List ℕ) → MembersTail ps comma_due x r → MembersTail qs comma_due x q → (ps ≡ qs) × (r ≡ q)
one_pairs_tail no_member no_member comma_due x r q a b = (refl, one_brace comma_due x r q a b)
one_pairs_tail no_member (member v m u qs) comma_due x r q a (y, z, k, e, b) = absurd (key_or_brace comma_due x y r v m k a)
one_pairs_tail (member v m u ps) no_member comma_due x r q (y, z, k, e, a) b = absurd (key_or_brace comma_due x y q v m k b)
one_pairs_tail (member v m t ps) (member w n u qs) comma_due x r q (y, z, k, e, a) (g, h, l, f, b) =
    let key = one_key comma_due x y g v w m n k l in
    let value = one_key_value y z h t u e (subst (λ s. IsKeyValue s u h) (sym key.2) f) in
    let rest = one_pairs_tail ps qs true z r q a (subst (λ s. MembersTail qs true s q) (sym value.1) b) in
    (pair_same v w m n t u ps qs key.0 key.1 value.0 rest.0, rest.1)

-- ---- the brace that is found, and then taken

-- a text that begins with the closing brace closes
pub brace_closes : (comma_due : Bool) (r : List ℕ) → IsBrace comma_due (125 ∷ r) r
brace_closes comma_due r = sign_ends 125 comma_due r

-- where the brace was found it can be taken
pub found_brace : (comma_due now : Bool) (x y : List ℕ) → IsAtBrace comma_due x y → (r : List ℕ) × IsBrace now y r
found_brace comma_due now x y (r, c, e) = (r, subst (λ z. IsBrace now z r) (sym e) (brace_closes now r))

-- and once it is taken there, the object goes on so from before
pub brace_found : (comma_due now : Bool) (x y r : List ℕ) → IsAtBrace comma_due x y → IsBrace now y r → IsBrace comma_due x r
brace_found comma_due now x y r (q, c, e) k = subst (λ z. IsBrace comma_due x z) (one_brace now (125 ∷ q) q r (brace_closes now q) (subst (λ z. IsBrace now z r) e k)) c

-- ---- pairs that were passed

-- one more pair
pub pairs_more : (ps : Members) (comma_due now : Bool) (x y k z u : List ℕ) (p : Bool) (t : Tree) → MembersPassed ps comma_due x now y → IsKey now y u p k → IsKeyValue k t z → MembersPassed (snoc_member ps u p t) comma_due x true z
pairs_more no_member comma_due now x y k z u p t (d, s) a e = (k, z, subst (λ w. IsKey comma_due w u p k) (sym s) (subst (λ b. IsKey b y u p k) (sym d) a), e, (refl, refl))
pairs_more (member v m w ps) comma_due now x y k z u p t (g, h, a, e, ok) b f = (g, h, a, e, pairs_more ps true now h y k z u p t ok b f)

-- the pairs after them up to the closing brace
pub pairs_tail : (ps qs : Members) (comma_due now : Bool) (x y r : List ℕ) → MembersPassed ps comma_due x now y → MembersTail qs now y r → MembersTail (joined_members ps qs) comma_due x r
pairs_tail no_member qs comma_due now x y r (d, s) tl = subst (λ k. MembersTail qs comma_due k r) (sym s) (subst (λ b. MembersTail qs b y r) (sym d) tl)
pairs_tail (member v m w ps) qs comma_due now x y r (g, h, a, e, ok) tl = (g, h, a, e, pairs_tail ps qs true now h y r ok tl)

joined_none : (ps : Members) → joined_members ps no_member ≡ ps
joined_none no_member = refl
joined_none (member u p t ps) = ap (member u p t) (joined_none ps)

-- the closing brace
pub pairs_close : (ps : Members) (comma_due now : Bool) (x y r : List ℕ) → MembersPassed ps comma_due x now y → IsBrace now y r → MembersTail ps comma_due x r
pairs_close ps comma_due now x y r p c = subst (λ qs. MembersTail qs comma_due x r) (joined_none ps) (pairs_tail ps no_member comma_due now x y r p c)

-- ---- objects from the front

-- the key and the value of a pair, up to the character after it
entry_read : {p u : List ℕ} {escape_free : Bool} {t : Tree} (c : ℕ) (y : List ℕ) → EndsValues c → Member p u escape_free t → (k : List ℕ) × (v : List ℕ) × IsKey false (p ++ c ∷ y) u escape_free k × IsKeyValue k t (v ++ c ∷ y) × Blanks v
entry_read c y ends (entry {a = a} {k = k} {b = b} {w = w} {s = s} {v = v} ba kt bb bw vs bv) = (
  b ++ 58 ∷ (w ++ (s ++ (v ++ c ∷ y))),
  v,
  record { front = a; spelling = k; split = regroup_pair a k b w s v (c ∷ y); blank = ba; key = key_before_blanks 58 (w ++ (s ++ (v ++ c ∷ y))) bb kt colon_no_name },
  (w ++ (s ++ (v ++ c ∷ y)), record { front = b; split = refl; blank = bb }, record { front = w; phrase = s; split = refl; blank = bw; value = vs; stops = stops_blanks s c y bv ends }),
  bv,
)

-- a key, a value and blanks after it are a pair
entry_of : {x u y z v g : List ℕ} {escape_free : Bool} {t : Tree} → ReadsKey x u escape_free y → IsKeyValue y t z → z ≡ v ++ g → Blanks v → (p : List ℕ) × (x ≡ p ++ g) × Member p u escape_free t
entry_of {v = v} {g = g} key (q, s, e) k b = (
  key.front ++ (key.spelling ++ (s.front ++ 58 ∷ (e.front ++ (e.phrase ++ v)))),
  key.split ∙ ap (λ i. key.front ++ (key.spelling ++ i)) (s.split ∙ ap (λ i. s.front ++ 58 ∷ i) (e.split ∙ ap (λ i. e.front ++ (e.phrase ++ i)) k)) ∙ sym (regroup_pair key.front key.spelling s.front e.front e.phrase v g),
  entry key.blank (key_spelling key.key) s.blank e.blank e.value b,
)

pub pairs_comma : (ps : Members) (x y r : List ℕ) → IsSign 44 x y → MembersTail ps false y r → MembersTail ps true x r
pairs_comma no_member x y r s c = inr (y, s, c)
pairs_comma (member u p t ps) x y r s (k, z, a, e, tl) = (k, z, (y, s, a), e, tl)

-- pairs and the brace are read one after another
pub entries_tail : {m : List ℕ} {ps : Members} (r : List ℕ) → MemberList m ps → MembersTail ps false (m ++ 125 ∷ r) r
entries_tail r (last_member {p = p} {u = u} {escape_free = escape_free} {t = t} e no_last_comma) =
    let (k, v, key, value, b) = entry_read 125 r brace_ends_values e in
    subst (λ z. MembersTail (member u escape_free t no_member) false z r) (sym (append_assoc p [] (125 ∷ r)))
    (k, v ++ 125 ∷ r, key, value, inl (record { front = v; split = refl; blank = b }))
entries_tail r (last_member {p = p} {u = u} {escape_free = escape_free} {t = t} e (last_comma {w = w} bw)) =
    let (k, v, key, value, b) = entry_read 44 (w ++ 125 ∷ r) comma_ends_values e in
    subst (λ z. MembersTail (member u escape_free t no_member) false z r) (sym (append_assoc p (44 ∷ w) (125 ∷ r)))
    (k, v ++ 44 ∷ (w ++ 125 ∷ r), key, value, inr (w ++ 125 ∷ r, record { front = v; split = refl; blank = b }, record { front = w; split = refl; blank = bw }))
entries_tail r (next_member {p = p} {m = m} {u = u} {escape_free = escape_free} {t = t} {ps = ps} e ms) =
    let (k, v, key, value, b) = entry_read 44 (m ++ 125 ∷ r) comma_ends_values e in
    subst (λ z. MembersTail (member u escape_free t ps) false z r) (sym (append_assoc p (44 ∷ m) (125 ∷ r)))
    (k, v ++ 44 ∷ (m ++ 125 ∷ r), key, value, pairs_comma ps (v ++ 44 ∷ (m ++ 125 ∷ r)) (m ++ 125 ∷ r) r (record { front = v; split = refl; blank = b }) (entries_tail r ms))

-- what is read one after another are pairs and the brace
pub tail_entries : (u : List ℕ) (escape_free : Bool) (t : Tree) (ps : Members) (x r : List ℕ) → MembersTail (member u escape_free t ps) false x r → (m : List ℕ) × (x ≡ m ++ 125 ∷ r) × MemberList m (member u escape_free t ps)
tail_entries u escape_free t no_member x r (y, z, key, value, inl c) =
    let (p, e, is) = entry_of key value c.split c.blank in
    (p ++ [], e ∙ sym (append_assoc p [] (125 ∷ r)), last_member is no_last_comma)
tail_entries u escape_free t no_member x r (y, z, key, value, inr (q, s, c)) =
    let (p, e, is) = entry_of key value (s.split ∙ ap (λ i. s.front ++ 44 ∷ i) c.split) s.blank in
    (p ++ 44 ∷ c.front, e ∙ sym (append_assoc p (44 ∷ c.front) (125 ∷ r)), last_member is (last_comma c.blank))
tail_entries u escape_free t (member v m n qs) x r (y, z, key, value, (k, h, (q, s, a), f, tl)) =
    let (w, g, ms) = tail_entries v m n qs q r (k, h, a, f, tl) in
    let (p, e, is) = entry_of key value (s.split ∙ ap (λ i. s.front ++ 44 ∷ i) g) s.blank in
    (p ++ 44 ∷ w, e ∙ sym (append_assoc p (44 ∷ w) (125 ∷ r)), next_member is ms)

-- nothing lengthens an object's text
pub object_stops : (m r : List ℕ) → Stops (123 ∷ m) r
object_stops m [] = tt
object_stops [] (c ∷ r) = refl
object_stops (b ∷ m) (c ∷ r) = refl

-- an object is opened, its pairs are read, and it is closed
pub object_front : (x r : List ℕ) (ps : Members) → Reads x (object ps) r → (y : List ℕ) × OpensObject x y × MembersTail ps false y r
object_front x r ps p = by_value p.front p.phrase p.split p.blank p.value
  where
    opened : (w m : List ℕ) → x ≡ w ++ ((123 ∷ m ++ 125 ∷ []) ++ r) → Blanks w → OpensObject x (m ++ 125 ∷ r)
    opened w m e b = record { front = w; split = e ∙ ap (λ z. w ++ 123 ∷ z) (append_assoc m (125 ∷ []) r); blank = b }

    by_value : {ps : Members} (w s : List ℕ) → x ≡ w ++ (s ++ r) → Blanks w → Val s (object ps) → (y : List ℕ) × OpensObject x y × MembersTail ps false y r
    by_value w s e b (is_empty_object {w = v} bv) = (v ++ 125 ∷ r, opened w v e b, record { front = v; split = refl; blank = bv })
    by_value w s e b (is_object {m = m} ms) = (m ++ 125 ∷ r, opened w m e b, entries_tail r ms)

-- what is opened, read and closed is an object
pub object_reads : (x y r : List ℕ) (ps : Members) → OpensObject x y → MembersTail ps false y r → Reads x (object ps) r
object_reads x y r no_member o c = record {
  front = o.front;
  phrase = 123 ∷ c.front ++ 125 ∷ [];
  split = o.split ∙ ap (λ z. o.front ++ 123 ∷ z) (c.split ∙ sym (append_assoc c.front (125 ∷ []) r));
  blank = o.blank;
  value = is_empty_object c.blank;
  stops = object_stops (c.front ++ 125 ∷ []) r;
}
object_reads x y r (member u escape_free t ps) o tl =
    let (m, e, ms) = tail_entries u escape_free t ps y r tl in
    record {
      front = o.front;
      phrase = 123 ∷ m ++ 125 ∷ [];
      split = o.split ∙ ap (λ z. o.front ++ 123 ∷ z) (e ∙ sym (append_assoc m (125 ∷ []) r));
      blank = o.blank;
      value = is_object ms;
      stops = object_stops (m ++ 125 ∷ []) r;
    }

-- ---- objects of which pairs were passed

-- the object that was opened, whose pairs were passed, and which was closed
pub object_closed : (x y z r : List ℕ) (ps : Members) (comma_due : Bool) → OpensObject x y → MembersPassed ps false y comma_due z → IsBrace comma_due z r → Reads x (object ps) r
object_closed x y z r ps comma_due o p c = object_reads x y r ps o (pairs_close ps false comma_due y z r p c)

-- after a key that was read comes its value, and what is left after that
pub value_left : (ps : Members) (comma_due : Bool) (x y r u : List ℕ) (escape_free : Bool) → IsKey comma_due x u escape_free y → MembersTail ps comma_due x r
    → (t : Tree) × (qs : Members) × (z : List ℕ) × (ps ≡ member u escape_free t qs) × IsKeyValue y t z × MembersTail qs true z r
value_left no_member comma_due x y r u escape_free key c = absurd (key_or_brace comma_due x y r u escape_free key c)
value_left (member v m t ps) comma_due x y r u escape_free key (k, z, other, value, tl) =
    let one = one_key comma_due x k y v u m escape_free other key in
    (t, ps, z, pair_same v u m escape_free t t ps ps one.0 one.1 refl refl, subst (λ s. IsKeyValue s t z) one.2 value, tl)

-- ---- lengths

key_takes : (x r u : List ℕ) (p : Bool) → ReadsKey x u p r → length r < length x
key_takes x r u p k =
    let head = key_head k.key in
    let spelling = ap length head.is in
    let whole = ap length k.split in
    omega (arith, spelling, whole, length-append k.front (k.spelling ++ r), length-append k.spelling r)

-- a key takes something
pub key_shorter : (comma_due : Bool) (x r u : List ℕ) (p : Bool) → IsKey comma_due x u p r → length r < length x
key_shorter false x r u p k = key_takes x r u p k
key_shorter true x r u p (y, c, k) = let a = sign_shorter 44 x y c in let b = key_takes y r u p k in omega (arith, a, b)

-- so does its value
pub key_value_shorter : (x r : List ℕ) (t : Tree) → IsKeyValue x t r → length r < length x
key_value_shorter x r t (y, c, p) = let a = sign_shorter 58 x y c in let b = reads_shorter y r t p in omega (arith, a, b)

-- ---- depths

-- the deepest of the pairs and one more
pub pair_depths_snoc : (ps : Members) (u : List ℕ) (p : Bool) (t : Tree) → member_depths (snoc_member ps u p t) ≡ max (member_depths ps) (depth t)
pair_depths_snoc no_member u p t = omega arith
pair_depths_snoc (member v m s ps) u p t = let rest = pair_depths_snoc ps u p t in omega (arith, rest)

-- one more pair of an allowed depth
pub shallow_snoc_pair : (ps : Members) (u : List ℕ) (p : Bool) (t : Tree) (level limit : ℕ) → level + member_depths ps ≤ limit → level + depth t ≤ limit → level + member_depths (snoc_member ps u p t) ≤ limit
shallow_snoc_pair ps u p t level limit a b = let e = pair_depths_snoc ps u p t in omega (arith, a, b, e)
