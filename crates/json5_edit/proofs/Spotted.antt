-- Where an entry stands in the text of a collection: what is known of a walk there, for whatever text goes on.
use Rattle.std.proofs.Common.{◌≡◌, ℕ, ◌≤◌, ◌<◌, ◌-◌, Bool, true, false, List, [], ◌∷◌, ◌++◌, length, refl, ap, sym, ◌∙◌, subst, inl, inr, Option, Some, arith}
use Rattle.std.specs.Str.{chars, encode_utf8_all}
use Rattle.json5_grammar.specs.Language.Blanks.{Blanks, LastBlanks}
use Rattle.json5_grammar.specs.Language.Documents.{Doc}
use Rattle.json5_grammar.specs.Language.Trees.{Tree, null, boolean, number, text, array, object, Trees, Members, no_more, more, no_member, member, depth}
use Rattle.json5_grammar.specs.Language.Values.{Val}
use Rattle.json5_grammar.specs.Model.Collections.{Tail, MembersTail, joined_trees, joined_members, snoc, snoc_member}
use Rattle.json5_grammar.proofs.ArraysPartlyRead.{element_shorter, sign_shorter}
use Rattle.json5_grammar.proofs.ObjectsRead.{key_shorter}
use Rattle.json5_tokens.specs.Outcome.{bytes_in}
use Rattle.json5_read.specs.declared.brackets.BracketKind.{BracketKind as Kind}
use Rattle.json5_read.specs.declared.brackets.BracketKind.TheVariants as kind
use Rattle.json5_walk.specs.Frames.{Frame, in_array, in_object, value_end, Spells, At, at_value, at_element, at_key, at_colon, at_comma, CompletesUntil, is_inner}
use Rattle.json5_walk.specs.Entries.{is_inside}
use Rattle.json5_walk.specs.Seams.{WholeTokens, is_unended}
use Rattle.json5_walk.specs.Walks.{Walked, IsAt}
use Rattle.json5_walk.proofs.Rests.{append_nil}
use Rattle.json5_walk.proofs.Calls.{bytes_before}
use Rattle.json5_edit.specs.Entries.{elements, members, entries, kind_of, read_in, around}
use Rattle.json5_edit.specs.Spots.{Goes, joined, Spot, awaits_comma, Inside}

-- ---- values

-- a text that is a value alone
pub spells_value : (limit : ℕ) (x : List ℕ) (t : Tree) → Val x t → depth t ≤ limit → Spells value_end limit x t
spells_value limit x t v d = (record { front = []; phrase = x; split = sym (append_nil x); blank = Blanks.empty; value = v; stops = tt }, d)

pub value_document : (limit : ℕ) (x : List ℕ) (t : Tree) → Val x t → depth t ≤ limit → Doc limit x t
value_document limit x t v d = record { before = []; text = x; after = []; whole = sym (append_nil x); blank = Blanks.empty; value = v; last = LastBlanks.blanks Blanks.empty; shallow = d }

-- ---- entries of joined collections

elements_joined : (ts us : Trees) → elements (joined_trees ts us) ≡ elements ts ++ elements us
elements_joined no_more us = refl
elements_joined (more t ts) us = ap (λ z. ([], t) ∷ z) (elements_joined ts us)

members_joined : (ps qs : Members) → members (joined_members ps qs) ≡ members ps ++ members qs
members_joined no_member qs = refl
members_joined (member u e t ps) qs = ap (λ z. (encode_utf8_all u, t) ∷ z) (members_joined ps qs)

-- a collection of this kind
abbrev pub IsOf : Kind → Tree → Type 0
IsOf k t = kind_of t ≡ Some k

pub entries_joined : (k : Kind) (t u : Tree) → IsOf k t → IsOf k u → entries (joined t u) ≡ entries t ++ entries u
entries_joined k (array ts) (array us) a b = elements_joined ts us
entries_joined k (object ps) (object qs) a b = members_joined ps qs
entries_joined k (array ts) (object qs) a b = let h : Some kind.Array ≡ Some kind.Object = a ∙ sym b in absurd (cc)
entries_joined k (object ps) (array us) a b = let h : Some kind.Object ≡ Some kind.Array = a ∙ sym b in absurd (cc)
entries_joined k null u a b = absurd (cc)
entries_joined k (boolean c) u a b = absurd (cc)
entries_joined k (number n) u a b = absurd (cc)
entries_joined k (text s e) u a b = absurd (cc)
entries_joined k (array ts) null a b = absurd (cc)
entries_joined k (array ts) (boolean c) a b = absurd (cc)
entries_joined k (array ts) (number n) a b = absurd (cc)
entries_joined k (array ts) (text s e) a b = absurd (cc)
entries_joined k (object ps) null a b = absurd (cc)
entries_joined k (object ps) (boolean c) a b = absurd (cc)
entries_joined k (object ps) (number n) a b = absurd (cc)
entries_joined k (object ps) (text s e) a b = absurd (cc)

pub joined_kind : (k : Kind) (t u : Tree) → IsOf k t → IsOf k u → IsOf k (joined t u)
joined_kind k (array ts) (array us) a b = a
joined_kind k (object ps) (object qs) a b = a
joined_kind k (array ts) (object qs) a b = let h : Some kind.Array ≡ Some kind.Object = a ∙ sym b in absurd (cc)
joined_kind k (object ps) (array us) a b = let h : Some kind.Object ≡ Some kind.Array = a ∙ sym b in absurd (cc)
joined_kind k null u a b = absurd (cc)
joined_kind k (boolean c) u a b = absurd (cc)
joined_kind k (number n) u a b = absurd (cc)
joined_kind k (text s e) u a b = absurd (cc)
joined_kind k (array ts) null a b = absurd (cc)
joined_kind k (array ts) (boolean c) a b = absurd (cc)
joined_kind k (array ts) (number n) a b = absurd (cc)
joined_kind k (array ts) (text s e) a b = absurd (cc)
joined_kind k (object ps) null a b = absurd (cc)
joined_kind k (object ps) (boolean c) a b = absurd (cc)
joined_kind k (object ps) (number n) a b = absurd (cc)
joined_kind k (object ps) (text s e) a b = absurd (cc)

-- ---- what goes on is something

tail_begun : (ts : Trees) (due : Bool) (x r : List ℕ) → Tail ts due x r → 0 < length x
tail_begun no_more false x r a = let k = sign_shorter 93 x r a in omega (arith, k)
tail_begun no_more true x r (inl a) = let k = sign_shorter 93 x r a in omega (arith, k)
tail_begun no_more true x r (inr (y, a, b)) = let k = sign_shorter 44 x y a in omega (arith, k)
tail_begun (more t ts) due x r (y, e, tl) = let k = element_shorter due x y t e in omega (arith, k)

pairs_begun : (ps : Members) (due : Bool) (x r : List ℕ) → MembersTail ps due x r → 0 < length x
pairs_begun no_member false x r a = let k = sign_shorter 125 x r a in omega (arith, k)
pairs_begun no_member true x r (inl a) = let k = sign_shorter 125 x r a in omega (arith, k)
pairs_begun no_member true x r (inr (y, a, b)) = let k = sign_shorter 44 x y a in omega (arith, k)
pairs_begun (member u e t ps) due x r (y, z, k, v, tl) = let n = key_shorter due x y u e k in omega (arith, n)

pub begun : (due : Bool) (u : Tree) (x : List ℕ) → Goes due u x → 0 < length x
begun due (array us) x g = tail_begun us due x [] g
begun due (object qs) x g = pairs_begun qs due x [] g
begun due null x g = absurd g
begun due (boolean b) x g = absurd g
begun due (number n) x g = absurd g
begun due (text s e) x g = absurd g

pub not_nothing : (due : Bool) (u : Tree) (x : List ℕ) → Goes due u x → x ≡ [] → ⊥
not_nothing due u x g e = let n = begun due u x g in let l = ap length e in absurd (omega (arith, n, l))

-- ---- one more entry before the others

joined_one : (ts us : Trees) (t : Tree) → joined_trees (snoc ts t) us ≡ joined_trees ts (more t us)
joined_one no_more us t = refl
joined_one (more s ts) us t = ap (λ z. more s z) (joined_one ts us t)

joined_one_member : (ps qs : Members) (u : List ℕ) (e : Bool) (t : Tree) → joined_members (snoc_member ps u e t) qs ≡ joined_members ps (member u e t qs)
joined_one_member no_member qs u e t = refl
joined_one_member (member k b s ps) qs u e t = ap (λ z. member k b s z) (joined_one_member ps qs u e t)

-- ---- a walk within a collection

-- what goes on completes the walk
completes : (limit : ℕ) (a : At) (u : Tree) (z : List ℕ) → is_inside a ≡ true → around a ≡ [] → kind_of u ≡ kind_of (read_in a) → Goes (awaits_comma a) u z → depth u ≤ limit → CompletesUntil value_end limit a z (joined (read_in a) u)
completes limit (at_element ts o) (array us) z i e k g d = subst (λ o. CompletesUntil value_end limit (at_element ts o) z (array (joined_trees ts us))) (sym e) (us, [], g, omega (arith, d), (refl, refl))
completes limit (at_key ps o) (object qs) z i e k g d = subst (λ o. CompletesUntil value_end limit (at_key ps o) z (object (joined_members ps qs))) (sym e) (qs, [], g, omega (arith, d), (refl, refl))
completes limit (at_comma t (in_array ts ∷ o)) (array us) z i e k g d = subst (λ o. CompletesUntil value_end limit (at_comma t (in_array ts ∷ o)) z (array (joined_trees (snoc ts t) us))) (sym e) (us, [], g, omega (arith, d), (refl, ap array (joined_one ts us t)))
completes limit (at_comma t (in_object ps u b ∷ o)) (object qs) z i e k g d = subst (λ o. CompletesUntil value_end limit (at_comma t (in_object ps u b ∷ o)) z (object (joined_members (snoc_member ps u b t) qs))) (sym e) (qs, [], g, omega (arith, d), (refl, ap object (joined_one_member ps qs u b t)))
completes limit (at_element ts o) (object qs) z i e k g d = absurd (cc)
completes limit (at_key ps o) (array us) z i e k g d = absurd (cc)
completes limit (at_comma t (in_array ts ∷ o)) (object qs) z i e k g d = absurd (cc)
completes limit (at_comma t (in_object ps u b ∷ o)) (array us) z i e k g d = absurd (cc)
completes limit a null z i e k g d = absurd g
completes limit a (boolean b) z i e k g d = absurd g
completes limit a (number n) z i e k g d = absurd g
completes limit a (text s b) z i e k g d = absurd g
completes limit (at_value o) u z i e k g d = absurd (cc)
completes limit (at_colon ps s b o) u z i e k g d = absurd (cc)
completes limit (at_comma t []) u z i e k g d = absurd (cc)

-- what completes the walk goes on
goes_on : (limit : ℕ) (a : At) (w : Tree) (z : List ℕ) → is_inside a ≡ true → around a ≡ [] → CompletesUntil value_end limit a z w → (u : Tree) × (kind_of u ≡ kind_of (read_in a)) × Goes (awaits_comma a) u z × (depth u ≤ limit) × (w ≡ joined (read_in a) u)
goes_on limit (at_element ts []) w z i e (us, r, tl, f, (n, is)) = (array us, refl, subst (Tail us false z) n tl, omega (arith, f), is)
goes_on limit (at_key ps []) w z i e (qs, r, tl, f, (n, is)) = (object qs, refl, subst (MembersTail qs false z) n tl, omega (arith, f), is)
goes_on limit (at_comma t (in_array ts ∷ [])) w z i e (us, r, tl, f, (n, is)) = (array us, refl, subst (Tail us true z) n tl, omega (arith, f), is ∙ ap array (sym (joined_one ts us t)))
goes_on limit (at_comma t (in_object ps u b ∷ [])) w z i e (qs, r, tl, f, (n, is)) = (object qs, refl, subst (MembersTail qs true z) n tl, omega (arith, f), is ∙ ap object (sym (joined_one_member ps qs u b t)))
goes_on limit (at_element ts (f ∷ o)) w z i e c = absurd (cc)
goes_on limit (at_key ps (f ∷ o)) w z i e c = absurd (cc)
goes_on limit (at_comma t (in_array ts ∷ (f ∷ o))) w z i e c = absurd (cc)
goes_on limit (at_comma t (in_object ps u b ∷ (f ∷ o))) w z i e c = absurd (cc)
goes_on limit (at_value o) w z i e c = absurd (cc)
goes_on limit (at_colon ps s b o) w z i e c = absurd (cc)
goes_on limit (at_comma t []) w z i e c = absurd (cc)

inside_inner : (a : At) → is_inside a ≡ true → is_inner a ≡ true
inside_inner (at_value o) e = refl
inside_inner (at_element ts o) e = refl
inside_inner (at_key ps o) e = refl
inside_inner (at_colon ps u b o) e = refl
inside_inner (at_comma t []) e = absurd (cc)
inside_inner (at_comma t (f ∷ o)) e = refl

inside_unended : (a : At) → is_inside a ≡ true → is_unended a ≡ awaits_comma a
inside_unended (at_value o) e = absurd (cc)
inside_unended (at_element ts o) e = refl
inside_unended (at_key ps o) e = refl
inside_unended (at_colon ps u b o) e = absurd (cc)
inside_unended (at_comma t o) e = refl

-- where a walk over a value stands
spot_at : {v : Walked} {m : Option (List Frame)} (a : At) (w : Tree) (n : ℕ) → IsAt v (record { now = a; marked = m }) → is_inside a ≡ true → around a ≡ [] → Spells value_end v.limit (chars v.text) w → n ≡ length v.text - bytes_in v.unread → (p : Spot v.limit v.text (read_in a) (awaits_comma a) n) × (p.rest ≡ v.unread)
spot_at {v = v} a w n f i e s is = (
  record {
    front = f.front;
    rest = v.unread;
    split = f.split;
    starts = is ∙ bytes_before v.text f.front v.unread f.is_text f.split;
    passed = subst (λ due. WholeTokens due f.front) (inside_unended a i) (f.passed something);
    goes = λ u z k g d. f.exact (inside_inner a i) z (joined (read_in a) u) (λ none. absurd (something none)) (completes v.limit a u z i e k g d);
    back = λ w s. goes_on v.limit a w v.unread i e (f.back value_end w s);
  },
  refl,
)
  where
    something : v.unread ≡ [] → ⊥
    something none = let (u, k, g, d, j) = goes_on v.limit a w v.unread i e (f.back value_end w s) in not_nothing (awaits_comma a) u v.unread g none

pub spot : {limit : ℕ} {bytes : List ℕ} {t : Tree} {due : Bool} {v : Walked} (w : Tree) (n : ℕ) → Inside limit bytes t due v → Spells value_end limit (chars bytes) w → n ≡ length v.text - bytes_in v.unread → (p : Spot limit bytes t due n) × (p.rest ≡ v.unread)
spot {limit = limit} {bytes = bytes} {t = t} {due = due} {v = v} w n h s is =
    let whole : Spells value_end v.limit (chars v.text) w = subst (λ x. Spells value_end v.limit (chars x) w) (sym h.same_text) (subst (λ l. Spells value_end l (chars bytes) w) (sym h.same_limit) s) in
    let (p, rest_is) = spot_at h.now w n h.is_at h.inside h.outermost whole is in (
      record {
        front = p.front;
        rest = p.rest;
        split = subst (λ x. chars x ≡ p.front ++ p.rest) h.same_text p.split;
        starts = p.starts;
        passed = subst (λ b. WholeTokens b p.front) h.is_due p.passed;
        goes = λ u z k g d.
            let made = p.goes u z (k ∙ ap kind_of (sym h.read)) (subst (λ b. Goes b u z) (sym h.is_due) g) (subst (λ l. depth u ≤ l) (sym h.same_limit) d) in
            subst (λ l. Spells value_end l (p.front ++ z) (joined t u)) h.same_limit (subst (λ r. Spells value_end v.limit (p.front ++ z) (joined r u)) h.read made);
        back = λ x is_whole.
            let there : Spells value_end v.limit (chars v.text) x = subst (λ b. Spells value_end v.limit (chars b) x) (sym h.same_text) (subst (λ l. Spells value_end l (chars bytes) x) (sym h.same_limit) is_whole) in
            let (u, k, g, d, j) = p.back x there in
            (u, k ∙ ap kind_of h.read, subst (λ b. Goes b u p.rest) h.is_due g, subst (λ l. depth u ≤ l) h.same_limit d, j ∙ ap (λ r. joined r u) h.read);
      },
      rest_is,
    )

-- ---- lists of entries

abbrev pub first_key : List (List ℕ × Tree) → List ℕ
first_key [] = []
first_key (e ∷ es) = e.0

abbrev pub first_tree : List (List ℕ × Tree) → Tree
first_tree [] = null
first_tree (e ∷ es) = e.1

abbrev pub later_entries : List (List ℕ × Tree) → List (List ℕ × Tree)
later_entries [] = []
later_entries (e ∷ es) = es
