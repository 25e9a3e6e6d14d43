-- What putting a value makes of a tree.
use denote.Ref.{Bor}
use Rattle.std.proofs.Common.{◌≡◌, ◌≢◌, inl, inr, ℕ, List, [], ◌∷◌, ◌++◌, append-nil, length, refl, sym, ap, ◌∙◌, subst, Option, Some, None, nat_eq}
use Rattle.std.specs.Cmp.Lexicographic.{pointwise}
use Rattle.std.specs.Str.{chars, encode_utf8_all}
use lib.Chars.{codes}
use lib.Pointwise.{bytes_decides}
use Rattle.json5_grammar.specs.Language.Blanks.{empty}
use Rattle.json5_grammar.specs.Language.Documents.{Doc, max_depth}
use Rattle.json5_grammar.specs.Language.Trees.{Tree, Trees, Members, null, boolean, number, text, array, object, no_more, more, no_member, member}
use Rattle.json5_grammar.specs.Language.Values.{Val, is_empty_array, is_empty_object}
use Rattle.json5_edit.specs.Changes.{ChangesBy}
use Rattle.json5_edit.specs.Comparing.{IsWithLast, step_key, step_kind}
use Rattle.json5_edit.specs.Entries.{elements, entries, members}
use Rattle.json5_edit.specs.Parts.{element_of, in_element, in_member, later_or, member_of, part, positions_of, put, put_at, put_under, under}
use Rattle.json5_edit.specs.Places.{LeadsNowhere}
use Rattle.json5_edit.specs.Sets.{IsSet}
use Rattle.json5_edit.specs.declared.paths.Step.{Step}
use Rattle.json5_edit.specs.declared.paths.Step.TheVariants as step
use Rattle.json5_edit_values.specs.Locations.{Becomes, ChangesAt}
use Rattle.json5_edit_values.specs.Puts.{Gets, GetsAlong, GetsText, IsAdded, IsPut, Puts, begun, first_in}
use Rattle.json5_edit_values.proofs.MergesMade.{change_whole}
use Rattle.json5_edit_values.proofs.PatchesMade.{one_document, one_there, one_value}
use Rattle.json5_edit_values.proofs.PathsJoined.{changes_twice, changes_within, leads_after, part_of_element, part_of_member}

-- ---- the last entry

element_last : (ts : Trees) (es : List (List ℕ × Tree)) (v : Tree) → elements ts ≡ es ++ (([], v) ∷ []) → element_of (length es) ts ≡ Some v
element_last no_more [] v e = absurd (cc)
element_last no_more (d ∷ es) v e = absurd (cc)
element_last (more t ts) [] v e = let same : ([], t) ≡ ([], v) = cc in ap (λ (z : List ℕ × Tree). Some z.1) same
element_last (more t ts) (d ∷ es) v e = let rest : elements ts ≡ es ++ (([], v) ∷ []) = cc in element_last ts es v rest

element_instead : (ts : Trees) (es : List (List ℕ × Tree)) (v w : Tree) → elements ts ≡ es ++ (([], v) ∷ []) → elements (put_at (length es) [] ts w) ≡ es ++ (([], w) ∷ [])
element_instead no_more [] v w e = absurd (cc)
element_instead no_more (d ∷ es) v w e = absurd (cc)
element_instead (more t ts) [] v w e = let rest : elements ts ≡ [] = cc in ap (λ z. ([], w) ∷ z) rest
element_instead (more t ts) (d ∷ es) v w e =
    let first : ([], t) ≡ d = cc in
    let rest : elements ts ≡ es ++ (([], v) ∷ []) = cc in
    ap (λ z. z ∷ elements (put_at (length es) [] ts w)) first ∙ ap (λ z. d ∷ z) (element_instead ts es v w rest)

no_members : (k : List ℕ) (ps : Members) → members ps ≡ [] → member_of k ps ≡ None
no_members k no_member e = refl
no_members k (member u b t ps) e = absurd (cc)

member_last : (k : List ℕ) (ps : Members) (es : List (List ℕ × Tree)) (v : Tree) → members ps ≡ es ++ ((k, v) ∷ []) → member_of k ps ≡ Some (length es, v)
member_last k no_member [] v e = absurd (cc)
member_last k no_member (d ∷ es) v e = absurd (cc)
member_last k (member u b t ps) [] v e =
    let first : (encode_utf8_all u, t) ≡ (k, v) = cc in
    let rest : members ps ≡ [] = cc in
    let key : encode_utf8_all u ≡ k = ap (λ (z : List ℕ × Tree). z.0) first in
    let value : t ≡ v = ap (λ (z : List ℕ × Tree). z.1) first in
    ap (λ z. later_or z (pointwise nat_eq (encode_utf8_all u) k) t) (no_members k ps rest) ∙ ap (λ z. later_or None z t) ((bytes_decides (encode_utf8_all u) k).1 key) ∙ ap (λ z. Some (0, z)) value
member_last k (member u b t ps) (d ∷ es) v e =
    let rest : members ps ≡ es ++ ((k, v) ∷ []) = cc in
    ap (λ z. later_or z (pointwise nat_eq (encode_utf8_all u) k) t) (member_last k ps es v rest)

member_instead : (k : List ℕ) (ps : Members) (es : List (List ℕ × Tree)) (v w : Tree) → members ps ≡ es ++ ((k, v) ∷ []) → members (put_under (length es) [] ps w) ≡ es ++ ((k, w) ∷ [])
member_instead k no_member [] v w e = absurd (cc)
member_instead k no_member (d ∷ es) v w e = absurd (cc)
member_instead k (member u b t ps) [] v w e =
    let first : (encode_utf8_all u, t) ≡ (k, v) = cc in
    let rest : members ps ≡ [] = cc in
    ap (λ (z : List ℕ × Tree). (z.0, w) ∷ members ps) first ∙ ap (λ z. (k, w) ∷ z) rest
member_instead k (member u b t ps) (d ∷ es) v w e =
    let first : (encode_utf8_all u, t) ≡ d = cc in
    let rest : members ps ≡ es ++ ((k, v) ∷ []) = cc in
    ap (λ z. z ∷ members (put_under (length es) [] ps w)) first ∙ ap (λ z. d ∷ z) (member_instead k ps es v w rest)

-- the step goes to the entry that came, and there another value can be put
pub record Last (s : Step) (v x y : Tree) : Type 0 where
  pub led : positions_of (s ∷ []) y ≡ Some (length (entries x) ∷ [])
  pub there : part (length (entries x) ∷ []) y ≡ Some v
  pub instead : (w : Tree) → IsWithLast (step_kind s) (step_key s) w x (put (length (entries x) ∷ []) y w)

pub last_at : (s : Step) (v x y : Tree) → Gets s v x y → Last s v x y
last_at (step.Index i) v x null (at, g) = let no = g.kind in absurd (cc)
last_at (step.Index i) v x (boolean b) (at, g) = let no = g.kind in absurd (cc)
last_at (step.Index i) v x (number n) (at, g) = let no = g.kind in absurd (cc)
last_at (step.Index i) v x (text u b) (at, g) = let no = g.kind in absurd (cc)
last_at (step.Index i) v x (array ts) (at, g) =
    let found = element_last ts (entries x) v g.one_more in
    record {
      led = ap (λ z. in_element i (positions_of []) (element_of z ts)) (sym at) ∙ ap (in_element i (positions_of [])) found ∙ ap (λ z. Some (z ∷ [])) (sym at);
      there = part_of_element (length (entries x)) [] ts v found;
      instead = λ w. record { was_kind = g.was_kind; kind = refl; one_more = element_instead ts (entries x) v w g.one_more };
    }
last_at (step.Index i) v x (object ps) (at, g) = let no = g.kind in absurd (cc)
last_at (step.Key k) v x null (at, g) = let no = g.kind in absurd (cc)
last_at (step.Key k) v x (boolean b) (at, g) = let no = g.kind in absurd (cc)
last_at (step.Key k) v x (number n) (at, g) = let no = g.kind in absurd (cc)
last_at (step.Key k) v x (text u b) (at, g) = let no = g.kind in absurd (cc)
last_at (step.Key k) v x (array ts) (at, g) = let no = g.kind in absurd (cc)
last_at (step.Key k) v x (object ps) (at, g) =
    let found = member_last k.now ps (entries x) v g.one_more in
    record {
      led = ap (in_member (positions_of [])) found;
      there = part_of_member k.now [] ps (length (entries x)) v found;
      instead = λ w. record { was_kind = g.was_kind; kind = refl; one_more = member_instead k.now ps (entries x) v w g.one_more };
    }

-- ---- an entry for each step

-- an entry comes behind the others, in which the steps go on
abbrev pub Begins : Step → List Step → (v t u : Tree) → Type 0
Begins s ss v t u = (w : Tree) × Puts ss v (begun ss) w × Gets s w t u

-- one that was begun, and then what goes on in it
goes_on : (s next : Step) (ss : List Step) (b v x y z : Tree) → b ≡ begun (next ∷ ss) → Gets s b x y → ChangesAt (Begins next ss v) (s ∷ []) y z → Begins s (next ∷ ss) v x z
goes_on s next ss b v x y z is g c =
    let l = last_at s b x y g in
    let at : Some c.positions ≡ Some (length (entries x) ∷ []) = sym c.led ∙ l.led in
    let here : c.positions ≡ length (entries x) ∷ [] = cc in
    let found : Some c.old ≡ Some b = sym c.there ∙ ap (λ p. part p y) here ∙ l.there in
    let old : c.old ≡ begun (next ∷ ss) = let same : c.old ≡ b = cc in same ∙ is in
    let after : put (length (entries x) ∷ []) y c.new ≡ z = ap (λ p. put p y c.new) (sym here) ∙ sym c.now in
    (c.new, inr (subst (λ o. Begins next ss v o c.new) old c.changed), (g.0, subst (λ o. IsWithLast (step_kind s) (step_key s) c.new x o) after (l.instead c.new)))

braces_spelled : chars (codes "{}") ≡ codes "{}"
unfolding chars
braces_spelled = refl

brackets_spelled : chars (codes "[]") ≡ codes "[]"
unfolding chars
brackets_spelled = refl

pub begun_spelled : (s : Step) (ss : List Step) (value : List ℕ) (b : Tree) → Val (chars (first_in (s ∷ ss) value)) b → b ≡ begun (s ∷ ss)
begun_spelled (step.Key k) ss value b v = one_value (codes "{}") b (object no_member) (subst (λ z. Val z b) braces_spelled v) (is_empty_object empty)
begun_spelled (step.Index i) ss value b v = one_value (codes "[]") b (array no_more) (subst (λ z. Val z b) brackets_spelled v) (is_empty_array empty)

pub begun_value : (s : Step) (ss : List Step) (value : List ℕ) → Val (chars (first_in (s ∷ ss) value)) (begun (s ∷ ss))
begun_value (step.Key k) ss value = subst (λ z. Val z (object no_member)) (sym braces_spelled) (is_empty_object empty)
begun_value (step.Index i) ss value = subst (λ z. Val z (array no_more)) (sym brackets_spelled) (is_empty_array empty)

-- what an insertion and a push make of a tree
pub gained : (s : Step) (bytes value made : List ℕ) (outer : List Step) → GetsText s bytes outer value made → ChangesBy (λ t u. (v : Tree) × Val (chars value) v × ChangesAt (Gets s v) outer t u) bytes made
gained (step.Key k) bytes value made outer p =
    let c = p.0 in
    let (v, spelled, w) = c.changed in
    (c.tree, put c.positions c.tree c.new_tree, c.document, c.still, (v, spelled, record { positions = c.positions; led = c.led; old = c.old_tree; new = c.new_tree; there = c.there; now = refl; changed = (p.2 c.old_tree c.old_value, w) }))
gained (step.Index i) bytes value made outer (h, p) =
    let c = p.0 in
    let (v, spelled, w) = c.changed in
    let same : h.value ≡ c.old_tree = one_there outer h.tree c.tree h.value c.old_tree h.positions c.positions (one_document (chars bytes) h.tree c.tree h.document c.document) h.led h.there c.led c.there in
    let count : length (entries c.old_tree) ≡ i = ap (λ z. length (entries z)) (sym same) ∙ h.such in
    (c.tree, put c.positions c.tree c.new_tree, c.document, c.still, (v, spelled, record { positions = c.positions; led = c.led; old = c.old_tree; new = c.new_tree; there = c.there; now = refl; changed = (count, w) }))

along : (s : Step) (ss : List Step) (bytes value made : List ℕ) (outer : List Step) → GetsAlong bytes outer (s ∷ ss) value made → ChangesBy (λ t u. (v : Tree) × Val (chars value) v × ChangesAt (Begins s ss v) outer t u) bytes made
along s [] bytes value made outer (between, first, is) =
    let (t, u, d, f, (v, spelled, c)) = gained s bytes value between outer first in
    (t, u, d, subst (λ z. Doc max_depth (chars z) u) (sym is) f, (v, spelled, record { positions = c.positions; led = c.led; old = c.old; new = c.new; there = c.there; now = c.now; changed = (v, refl, c.changed) }))
along s (next ∷ ss) bytes value made outer (between, first, rest) =
    let (t, m, d, f, (b, begins, c)) = gained s bytes (first_in (next ∷ ss) value) between outer first in
    let (n, u, g, h, (v, spelled, a)) = along next ss between value made (outer ++ (s ∷ [])) rest in
    let same : n ≡ m = one_document (chars between) n m g f in
    let (led, there) = leads_after (Gets s b) outer t m c in
    let inside = changes_within (Begins next ss v) outer (s ∷ []) m u c.new c.positions led there (subst (λ z. ChangesAt (Begins next ss v) (outer ++ (s ∷ [])) z u) same a) in
    let is = begun_spelled next ss value b begins in
    (t, u, d, h, (v, spelled, changes_twice (Gets s b) (ChangesAt (Begins next ss v) (s ∷ [])) (Begins s (next ∷ ss) v) outer t m u (λ x y z p q. goes_on s next ss b v x y z is p q) c inside))

-- ---- where the first of some steps leads

pub record First (s : Step) (rest : List Step) (t x : Tree) (js : List ℕ) : Type 0 where
  pub position : ℕ
  pub value : Tree
  pub further : List ℕ
  pub at : js ≡ position ∷ further
  pub led : positions_of (s ∷ []) t ≡ Some (position ∷ [])
  pub there : part (position ∷ []) t ≡ Some value
  pub on : positions_of rest value ≡ Some further

under_first : (i : ℕ) (js : List ℕ) (r : Option (List ℕ)) → under i r ≡ Some js → (ks : List ℕ) × (r ≡ Some ks) × (js ≡ i ∷ ks)
under_first i js None e = absurd (cc)
under_first i js (Some ks) e = let at : js ≡ i ∷ ks = cc in (ks, refl, at)

first_element : (i : ℕ) (rest : List Step) (ts : Trees) (x : Tree) (js : List ℕ) (r : Option Tree) → element_of i ts ≡ r → in_element i (positions_of rest) r ≡ Some js → First (step.Index i) rest (array ts) x js
first_element i rest ts x js None is e = absurd (cc)
first_element i rest ts x js (Some s) is e =
    let (ks, led, at) = under_first i js (positions_of rest s) e in
    record { position = i; value = s; further = ks; at = at; led = ap (in_element i (positions_of [])) is; there = part_of_element i [] ts s is; on = led }

first_member : (k : Bor (List ℕ)) (rest : List Step) (ps : Members) (x : Tree) (js : List ℕ) (r : Option (ℕ × Tree)) → member_of k.now ps ≡ r → in_member (positions_of rest) r ≡ Some js → First (step.Key k) rest (object ps) x js
first_member k rest ps x js None is e = absurd (cc)
first_member k rest ps x js (Some (i, s)) is e =
    let (ks, led, at) = under_first i js (positions_of rest s) e in
    record { position = i; value = s; further = ks; at = at; led = ap (in_member (positions_of [])) is; there = part_of_member k.now [] ps i s is; on = led }

pub first_led : (s : Step) (rest : List Step) (t x : Tree) (js : List ℕ) → positions_of (s ∷ rest) t ≡ Some js → First s rest t x js
first_led (step.Index i) rest null x js e = absurd (cc)
first_led (step.Index i) rest (boolean b) x js e = absurd (cc)
first_led (step.Index i) rest (number n) x js e = absurd (cc)
first_led (step.Index i) rest (text u b) x js e = absurd (cc)
first_led (step.Index i) rest (array ts) x js e = first_element i rest ts x js (element_of i ts) refl e
first_led (step.Index i) rest (object ps) x js e = absurd (cc)
first_led (step.Key k) rest null x js e = absurd (cc)
first_led (step.Key k) rest (boolean b) x js e = absurd (cc)
first_led (step.Key k) rest (number n) x js e = absurd (cc)
first_led (step.Key k) rest (text u b) x js e = absurd (cc)
first_led (step.Key k) rest (array ts) x js e = absurd (cc)
first_led (step.Key k) rest (object ps) x js e = first_member k rest ps x js (member_of k.now ps) refl e

-- what is put further in is put from the outermost value on
puts_on : (v : Tree) (rest : List Step) (Change : Tree → Tree → Type 0) → ((a b : Tree) → Change a b → Puts rest v a b) → (outer : List Step) (t u : Tree) → ChangesAt Change outer t u → Puts (outer ++ rest) v t u
puts_on v rest Change k [] t u c = k t u (change_whole Change t u c)
puts_on v rest Change k (s ∷ outer) t u c =
    let f = first_led s outer t c.old c.positions c.led in
    let w = changes_within Change (s ∷ []) outer t u f.value (f.position ∷ []) f.led f.there c in
    inl (record { positions = w.positions; led = w.led; old = w.old; new = w.new; there = w.there; now = w.now; changed = puts_on v rest Change k outer w.old w.new w.changed })

-- ---- whole texts

pub set_puts : (bytes value made : List ℕ) (path : List Step) → IsSet bytes path value made → IsPut bytes path value made
set_puts bytes value made path i =
    let c : ChangesAt (Becomes i.new_tree) path i.tree (put i.positions i.tree i.new_tree) = record { positions = i.positions; led = i.led; old = i.old_tree; new = i.new_tree; there = i.there; now = refl; changed = refl } in
    let p = puts_on i.new_tree [] (Becomes i.new_tree) (λ a b e. e) path i.tree (put i.positions i.tree i.new_tree) c in
    inl (i, (i.tree, put i.positions i.tree i.new_tree, i.document, i.still, (i.new_tree, i.new_value, subst (λ z. Puts z i.new_tree i.tree (put i.positions i.tree i.new_tree)) (append-nil path) p)))

pub along_added : (bytes value made : List ℕ) (path outer rest : List Step) → LeadsNowhere bytes path → path ≡ outer ++ rest → rest ≢ [] → GetsAlong bytes outer rest value made → IsAdded bytes path value made
along_added bytes value made path outer [] none is some a = absurd (some refl)
along_added bytes value made path outer (s ∷ ss) none is some a =
    let (t, u, d, e, (v, spelled, c)) = along s ss bytes value made outer a in
    let p = puts_on v (s ∷ ss) (Begins s ss v) (λ x y k. inr k) outer t u c in
    (none, (t, u, d, e, (v, spelled, subst (λ z. Puts z v t u) (sym is) p)), (outer, s ∷ ss, is, some, a))
