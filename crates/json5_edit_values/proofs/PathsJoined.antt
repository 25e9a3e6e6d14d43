-- A value that is put where a path leads, and the path and its further steps after that.
use denote.Ref.{Bor}
use Rattle.std.proofs.Common.{◌≡◌, ℕ, zero, suc, Bool, true, false, List, [], ◌∷◌, ◌++◌, refl, ap, sym, ◌∙◌, subst, Option, Some, None, nat_eq}
use Rattle.std.specs.Prelude.{option_map}
use Rattle.std.specs.Cmp.Lexicographic.{pointwise}
use Rattle.std.specs.Str.{encode_utf8_all}
use Rattle.json5_grammar.specs.Language.Trees.{Tree, null, boolean, number, text, array, object, Trees, Members, no_more, more, no_member, member}
use Rattle.json5_edit.specs.Parts.{part, part_at, part_under, put, put_at, put_under, element_of, later_or, member_of, under, in_element, in_member, positions_of}
use Rattle.json5_edit.specs.Refusals.{HasKey}
use Rattle.json5_edit.specs.declared.paths.Step.{Step}
use Rattle.json5_edit.specs.declared.paths.Step.TheVariants as step
use Rattle.json5_edit_values.specs.Locations.{ChangesAt}

-- ---- a part that is put

mutual
  put_itself : (js : List ℕ) (t x : Tree) → part js t ≡ Some x → put js t x ≡ t
  put_itself [] t x e = let same : t ≡ x = cc in sym same
  put_itself (i ∷ js) null x e = refl
  put_itself (i ∷ js) (boolean b) x e = refl
  put_itself (i ∷ js) (number n) x e = refl
  put_itself (i ∷ js) (text u b) x e = refl
  put_itself (i ∷ js) (array ts) x e = ap array (put_itself_at i js ts x e)
  put_itself (i ∷ js) (object ps) x e = ap object (put_itself_under i js ps x e)

  put_itself_at : (i : ℕ) (js : List ℕ) (ts : Trees) (x : Tree) → part_at i js ts ≡ Some x → put_at i js ts x ≡ ts
  put_itself_at i js no_more x e = refl
  put_itself_at zero js (more t ts) x e = ap (λ z. more z ts) (put_itself js t x e)
  put_itself_at (suc i) js (more t ts) x e = ap (λ z. more t z) (put_itself_at i js ts x e)

  put_itself_under : (i : ℕ) (js : List ℕ) (ps : Members) (x : Tree) → part_under i js ps ≡ Some x → put_under i js ps x ≡ ps
  put_itself_under i js no_member x e = refl
  put_itself_under zero js (member u b t ps) x e = ap (λ z. member u b z ps) (put_itself js t x e)
  put_itself_under (suc i) js (member u b t ps) x e = ap (λ z. member u b t z) (put_itself_under i js ps x e)

mutual
  put_twice : (js : List ℕ) (t v w : Tree) → put js (put js t v) w ≡ put js t w
  put_twice [] t v w = refl
  put_twice (i ∷ js) null v w = refl
  put_twice (i ∷ js) (boolean b) v w = refl
  put_twice (i ∷ js) (number n) v w = refl
  put_twice (i ∷ js) (text u b) v w = refl
  put_twice (i ∷ js) (array ts) v w = ap array (put_twice_at i js ts v w)
  put_twice (i ∷ js) (object ps) v w = ap object (put_twice_under i js ps v w)

  put_twice_at : (i : ℕ) (js : List ℕ) (ts : Trees) (v w : Tree) → put_at i js (put_at i js ts v) w ≡ put_at i js ts w
  put_twice_at i js no_more v w = refl
  put_twice_at zero js (more t ts) v w = ap (λ z. more z ts) (put_twice js t v w)
  put_twice_at (suc i) js (more t ts) v w = ap (λ z. more t z) (put_twice_at i js ts v w)

  put_twice_under : (i : ℕ) (js : List ℕ) (ps : Members) (v w : Tree) → put_under i js (put_under i js ps v) w ≡ put_under i js ps w
  put_twice_under i js no_member v w = refl
  put_twice_under zero js (member u b t ps) v w = ap (λ z. member u b z ps) (put_twice js t v w)
  put_twice_under (suc i) js (member u b t ps) v w = ap (λ z. member u b t z) (put_twice_under i js ps v w)

mutual
  part_put : (js : List ℕ) (t x v : Tree) → part js t ≡ Some x → part js (put js t v) ≡ Some v
  part_put [] t x v e = refl
  part_put (i ∷ js) null x v e = absurd (cc)
  part_put (i ∷ js) (boolean b) x v e = absurd (cc)
  part_put (i ∷ js) (number n) x v e = absurd (cc)
  part_put (i ∷ js) (text u b) x v e = absurd (cc)
  part_put (i ∷ js) (array ts) x v e = part_put_at i js ts x v e
  part_put (i ∷ js) (object ps) x v e = part_put_under i js ps x v e

  part_put_at : (i : ℕ) (js : List ℕ) (ts : Trees) (x v : Tree) → part_at i js ts ≡ Some x → part_at i js (put_at i js ts v) ≡ Some v
  part_put_at i js no_more x v e = absurd (cc)
  part_put_at zero js (more t ts) x v e = part_put js t x v e
  part_put_at (suc i) js (more t ts) x v e = part_put_at i js ts x v e

  part_put_under : (i : ℕ) (js : List ℕ) (ps : Members) (x v : Tree) → part_under i js ps ≡ Some x → part_under i js (put_under i js ps v) ≡ Some v
  part_put_under i js no_member x v e = absurd (cc)
  part_put_under zero js (member u b t ps) x v e = part_put js t x v e
  part_put_under (suc i) js (member u b t ps) x v e = part_put_under i js ps x v e

-- ---- a part within a part

mutual
  pub part_on : (is ks : List ℕ) (t x : Tree) → part is t ≡ Some x → part (is ++ ks) t ≡ part ks x
  part_on [] ks t x e = let same : t ≡ x = cc in ap (part ks) same
  part_on (i ∷ is) ks null x e = absurd (cc)
  part_on (i ∷ is) ks (boolean b) x e = absurd (cc)
  part_on (i ∷ is) ks (number n) x e = absurd (cc)
  part_on (i ∷ is) ks (text u b) x e = absurd (cc)
  part_on (i ∷ is) ks (array ts) x e = part_on_at i is ks ts x e
  part_on (i ∷ is) ks (object ps) x e = part_on_under i is ks ps x e

  part_on_at : (i : ℕ) (is ks : List ℕ) (ts : Trees) (x : Tree) → part_at i is ts ≡ Some x → part_at i (is ++ ks) ts ≡ part ks x
  part_on_at i is ks no_more x e = absurd (cc)
  part_on_at zero is ks (more t ts) x e = part_on is ks t x e
  part_on_at (suc i) is ks (more t ts) x e = part_on_at i is ks ts x e

  part_on_under : (i : ℕ) (is ks : List ℕ) (ps : Members) (x : Tree) → part_under i is ps ≡ Some x → part_under i (is ++ ks) ps ≡ part ks x
  part_on_under i is ks no_member x e = absurd (cc)
  part_on_under zero is ks (member u b t ps) x e = part_on is ks t x e
  part_on_under (suc i) is ks (member u b t ps) x e = part_on_under i is ks ps x e

mutual
  put_on : (is ks : List ℕ) (t x v : Tree) → part is t ≡ Some x → put (is ++ ks) t v ≡ put is t (put ks x v)
  put_on [] ks t x v e = let same : t ≡ x = cc in ap (λ z. put ks z v) same
  put_on (i ∷ is) ks null x v e = refl
  put_on (i ∷ is) ks (boolean b) x v e = refl
  put_on (i ∷ is) ks (number n) x v e = refl
  put_on (i ∷ is) ks (text u b) x v e = refl
  put_on (i ∷ is) ks (array ts) x v e = ap array (put_on_at i is ks ts x v e)
  put_on (i ∷ is) ks (object ps) x v e = ap object (put_on_under i is ks ps x v e)

  put_on_at : (i : ℕ) (is ks : List ℕ) (ts : Trees) (x v : Tree) → part_at i is ts ≡ Some x → put_at i (is ++ ks) ts v ≡ put_at i is ts (put ks x v)
  put_on_at i is ks no_more x v e = refl
  put_on_at zero is ks (more t ts) x v e = ap (λ z. more z ts) (put_on is ks t x v e)
  put_on_at (suc i) is ks (more t ts) x v e = ap (λ z. more t z) (put_on_at i is ks ts x v e)

  put_on_under : (i : ℕ) (is ks : List ℕ) (ps : Members) (x v : Tree) → part_under i is ps ≡ Some x → put_under i (is ++ ks) ps v ≡ put_under i is ps (put ks x v)
  put_on_under i is ks no_member x v e = refl
  put_on_under zero is ks (member u b t ps) x v e = ap (λ z. member u b z ps) (put_on is ks t x v e)
  put_on_under (suc i) is ks (member u b t ps) x v e = ap (λ z. member u b t z) (put_on_under i is ks ps x v e)

-- ---- parts of a collection

pub part_of_element : (i : ℕ) (js : List ℕ) (ts : Trees) (s : Tree) → element_of i ts ≡ Some s → part_at i js ts ≡ part js s
part_of_element i js no_more s e = absurd (cc)
part_of_element zero js (more t ts) s e = let same : t ≡ s = cc in ap (part js) same
part_of_element (suc i) js (more t ts) s e = part_of_element i js ts s e

element_put : (i : ℕ) (js : List ℕ) (ts : Trees) (s v : Tree) → element_of i ts ≡ Some s → element_of i (put_at i js ts v) ≡ Some (put js s v)
element_put i js no_more s v e = absurd (cc)
element_put zero js (more t ts) s v e = let same : t ≡ s = cc in ap (λ z. Some (put js z v)) same
element_put (suc i) js (more t ts) s v e = element_put i js ts s v e

abbrev index_or : ℕ → Option (ℕ × Tree) → ℕ
index_or i None = i
index_or i (Some (j, t)) = j

abbrev value_or : Tree → Option (ℕ × Tree) → Tree
value_or s None = s
value_or s (Some (j, t)) = t

-- the member that has the key last, where it stands among the others
pub data Stands (k : List ℕ) (ps : Members) (u : List ℕ) (b : Bool) (t : Tree) (i : ℕ) (s : Tree) : Type 0 where
  behind : (j : ℕ) → member_of k ps ≡ Some (j, s) → i ≡ suc j → Stands k ps u b t i s
  here : member_of k ps ≡ None → pointwise nat_eq (encode_utf8_all u) k ≡ true → i ≡ 0 → t ≡ s → Stands k ps u b t i s

stands : (k : List ℕ) (ps : Members) (u : List ℕ) (b : Bool) (t : Tree) (i : ℕ) (s : Tree) (r : Option (ℕ × Tree)) (same : Bool) → member_of k ps ≡ r → pointwise nat_eq (encode_utf8_all u) k ≡ same → later_or r same t ≡ Some (i, s) → Stands k ps u b t i s
stands k ps u b t i s (Some (j, w)) same is eq e =
    let index : suc j ≡ i = ap (index_or 0) e in
    let value : w ≡ s = ap (value_or w) e in
    behind j (is ∙ ap (λ z. Some (j, z)) value) (sym index)
stands k ps u b t i s None true is eq e =
    let index : 0 ≡ i = ap (index_or 0) e in
    let value : t ≡ s = ap (value_or t) e in
    here is eq (sym index) value
stands k ps u b t i s None false is eq e = absurd (cc)

part_there : (k js : List ℕ) (ps : Members) (u : List ℕ) (b : Bool) (t : Tree) (i : ℕ) (s : Tree) → ((j : ℕ) → member_of k ps ≡ Some (j, s) → part_under j js ps ≡ part js s) → Stands k ps u b t i s → part_under i js (member u b t ps) ≡ part js s
part_there k js ps u b t i s rest (behind j is index) = ap (λ n. part_under n js (member u b t ps)) index ∙ rest j is
part_there k js ps u b t i s rest (here is eq index value) = ap (λ n. part_under n js (member u b t ps)) index ∙ ap (part js) value

pub part_of_member : (k js : List ℕ) (ps : Members) (i : ℕ) (s : Tree) → member_of k ps ≡ Some (i, s) → part_under i js ps ≡ part js s
part_of_member k js no_member i s e = absurd (cc)
part_of_member k js (member u b t ps) i s e = part_there k js ps u b t i s (λ j f. part_of_member k js ps j s f) (stands k ps u b t i s (member_of k ps) (pointwise nat_eq (encode_utf8_all u) k) refl refl e)

put_there : (k js : List ℕ) (ps : Members) (u : List ℕ) (b : Bool) (t : Tree) (i : ℕ) (s v : Tree) → ((j : ℕ) → member_of k ps ≡ Some (j, s) → member_of k (put_under j js ps v) ≡ Some (j, put js s v)) → Stands k ps u b t i s → member_of k (put_under i js (member u b t ps) v) ≡ Some (i, put js s v)
put_there k js ps u b t i s v rest (behind j is index) =
    ap (λ n. member_of k (put_under n js (member u b t ps) v)) index ∙ ap (λ r. later_or r (pointwise nat_eq (encode_utf8_all u) k) t) (rest j is) ∙ ap (λ n. Some (n, put js s v)) (sym index)
put_there k js ps u b t i s v rest (here is eq index value) =
    ap (λ n. member_of k (put_under n js (member u b t ps) v)) index ∙ ap (λ r. later_or r (pointwise nat_eq (encode_utf8_all u) k) (put js t v)) is ∙ ap (λ z. later_or None z (put js t v)) eq ∙ ap (λ z. Some (0, put js z v)) value
    ∙ ap (λ n. Some (n, put js s v)) (sym index)

member_put : (k js : List ℕ) (ps : Members) (i : ℕ) (s v : Tree) → member_of k ps ≡ Some (i, s) → member_of k (put_under i js ps v) ≡ Some (i, put js s v)
member_put k js no_member i s v e = absurd (cc)
member_put k js (member u b t ps) i s v e = put_there k js ps u b t i s v (λ j f. member_put k js ps j s v f) (stands k ps u b t i s (member_of k ps) (pointwise nat_eq (encode_utf8_all u) k) refl refl e)

-- ---- paths

under_some : (i : ℕ) (js : List ℕ) (found : Option (List ℕ)) → under i found ≡ Some js → (ks : List ℕ) × (found ≡ Some ks) × (js ≡ i ∷ ks)
under_some i js None e = absurd (cc)
under_some i js (Some ks) e = let is : js ≡ i ∷ ks = cc in (ks, refl, is)

element_led : (i : ℕ) (path : List Step) (ts : Trees) (x v : Tree) (js : List ℕ) (r : Option Tree) → element_of i ts ≡ r → ((s : Tree) (ks : List ℕ) → positions_of path s ≡ Some ks → part ks s ≡ Some x → positions_of path (put ks s v) ≡ Some ks)
    → in_element i (positions_of path) r ≡ Some js → part js (array ts) ≡ Some x → positions_of (step.Index i ∷ path) (put js (array ts) v) ≡ Some js
element_led i path ts x v js None is k e p = absurd (cc)
element_led i path ts x v js (Some s) is k e p =
    let (ks, led, at) = under_some i js (positions_of path s) e in
    let found : part ks s ≡ Some x = sym (part_of_element i ks ts s is) ∙ ap (λ z. part z (array ts)) (sym at) ∙ p in
    ap (λ z. positions_of (step.Index i ∷ path) (put z (array ts) v)) at ∙ ap (in_element i (positions_of path)) (element_put i ks ts s v is) ∙ ap (under i) (k s ks led found) ∙ ap Some (sym at)

member_led : (k : Bor (List ℕ)) (path : List Step) (ps : Members) (x v : Tree) (js : List ℕ) (r : Option (ℕ × Tree)) → member_of k.now ps ≡ r → ((s : Tree) (ks : List ℕ) → positions_of path s ≡ Some ks → part ks s ≡ Some x → positions_of path (put ks s v) ≡ Some ks)
    → in_member (positions_of path) r ≡ Some js → part js (object ps) ≡ Some x → positions_of (step.Key k ∷ path) (put js (object ps) v) ≡ Some js
member_led key path ps x v js None is k e p = absurd (cc)
member_led key path ps x v js (Some (i, s)) is k e p =
    let (ks, led, at) = under_some i js (positions_of path s) e in
    let found : part ks s ≡ Some x = sym (part_of_member key.now ks ps i s is) ∙ ap (λ z. part z (object ps)) (sym at) ∙ p in
    ap (λ z. positions_of (step.Key key ∷ path) (put z (object ps) v)) at ∙ ap (in_member (positions_of path)) (member_put key.now ks ps i s v is) ∙ ap (under i) (k s ks led found) ∙ ap Some (sym at)

-- a path leads where it led, whatever is put there
led_put : (path : List Step) (t x v : Tree) (js : List ℕ) → positions_of path t ≡ Some js → part js t ≡ Some x → positions_of path (put js t v) ≡ Some js
led_put [] t x v js e p = e
led_put (step.Index i ∷ path) null x v js e p = absurd (cc)
led_put (step.Index i ∷ path) (boolean b) x v js e p = absurd (cc)
led_put (step.Index i ∷ path) (number n) x v js e p = absurd (cc)
led_put (step.Index i ∷ path) (text u b) x v js e p = absurd (cc)
led_put (step.Index i ∷ path) (array ts) x v js e p = element_led i path ts x v js (element_of i ts) refl (λ s ks f q. led_put path s x v ks f q) e p
led_put (step.Index i ∷ path) (object ps) x v js e p = absurd (cc)
led_put (step.Key k ∷ path) null x v js e p = absurd (cc)
led_put (step.Key k ∷ path) (boolean b) x v js e p = absurd (cc)
led_put (step.Key k ∷ path) (number n) x v js e p = absurd (cc)
led_put (step.Key k ∷ path) (text u b) x v js e p = absurd (cc)
led_put (step.Key k ∷ path) (array ts) x v js e p = absurd (cc)
led_put (step.Key k ∷ path) (object ps) x v js e p = member_led k path ps x v js (member_of k.now ps) refl (λ s ks f q. led_put path s x v ks f q) e p

within : (i : ℕ) (is : List ℕ) (r : Option (List ℕ)) → under i (option_map (λ ks. is ++ ks) r) ≡ option_map (λ ks. (i ∷ is) ++ ks) r
within i is None = refl
within i is (Some ks) = refl

same_option : (r : Option (List ℕ)) → option_map (λ ks. [] ++ ks) r ≡ r
same_option None = refl
same_option (Some ks) = refl

-- the positions to which further steps lead from the part x at js
abbrev onward : List Step → Tree → List ℕ → Option (List ℕ)
onward rest x js = option_map (λ ks. js ++ ks) (positions_of rest x)

element_onward : (i : ℕ) (outer rest : List Step) (ts : Trees) (x : Tree) (js : List ℕ) (r : Option Tree) → element_of i ts ≡ r → ((s : Tree) (ks : List ℕ) → positions_of outer s ≡ Some ks → part ks s ≡ Some x → positions_of (outer ++ rest) s ≡ onward rest x ks)
    → in_element i (positions_of outer) r ≡ Some js → part js (array ts) ≡ Some x → in_element i (positions_of (outer ++ rest)) r ≡ onward rest x js
element_onward i outer rest ts x js None is k e p = absurd (cc)
element_onward i outer rest ts x js (Some s) is k e p =
    let (ks, led, at) = under_some i js (positions_of outer s) e in
    let found : part ks s ≡ Some x = sym (part_of_element i ks ts s is) ∙ ap (λ z. part z (array ts)) (sym at) ∙ p in
    ap (under i) (k s ks led found) ∙ within i ks (positions_of rest x) ∙ ap (onward rest x) (sym at)

member_onward : (key : List ℕ) (outer rest : List Step) (ps : Members) (x : Tree) (js : List ℕ) (r : Option (ℕ × Tree)) → member_of key ps ≡ r → ((s : Tree) (ks : List ℕ) → positions_of outer s ≡ Some ks → part ks s ≡ Some x → positions_of (outer ++ rest) s ≡ onward rest x ks)
    → in_member (positions_of outer) r ≡ Some js → part js (object ps) ≡ Some x → in_member (positions_of (outer ++ rest)) r ≡ onward rest x js
member_onward key outer rest ps x js None is k e p = absurd (cc)
member_onward key outer rest ps x js (Some (i, s)) is k e p =
    let (ks, led, at) = under_some i js (positions_of outer s) e in
    let found : part ks s ≡ Some x = sym (part_of_member key ks ps i s is) ∙ ap (λ z. part z (object ps)) (sym at) ∙ p in
    ap (under i) (k s ks led found) ∙ within i ks (positions_of rest x) ∙ ap (onward rest x) (sym at)

-- further steps lead on from the part to which a path leads
pub led_on : (outer rest : List Step) (t x : Tree) (js : List ℕ) → positions_of outer t ≡ Some js → part js t ≡ Some x → positions_of (outer ++ rest) t ≡ onward rest x js
led_on [] rest t x js e p =
    let none : js ≡ [] = cc in
    let found : Some t ≡ Some x = ap (λ z. part z t) (sym none) ∙ p in
    let same : t ≡ x = cc in
    ap (positions_of rest) same ∙ sym (same_option (positions_of rest x)) ∙ ap (onward rest x) (sym none)
led_on (step.Index i ∷ outer) rest null x js e p = absurd (cc)
led_on (step.Index i ∷ outer) rest (boolean b) x js e p = absurd (cc)
led_on (step.Index i ∷ outer) rest (number n) x js e p = absurd (cc)
led_on (step.Index i ∷ outer) rest (text u b) x js e p = absurd (cc)
led_on (step.Index i ∷ outer) rest (array ts) x js e p = element_onward i outer rest ts x js (element_of i ts) refl (λ s ks f q. led_on outer rest s x ks f q) e p
led_on (step.Index i ∷ outer) rest (object ps) x js e p = absurd (cc)
led_on (step.Key k ∷ outer) rest null x js e p = absurd (cc)
led_on (step.Key k ∷ outer) rest (boolean b) x js e p = absurd (cc)
led_on (step.Key k ∷ outer) rest (number n) x js e p = absurd (cc)
led_on (step.Key k ∷ outer) rest (text u b) x js e p = absurd (cc)
led_on (step.Key k ∷ outer) rest (array ts) x js e p = absurd (cc)
led_on (step.Key k ∷ outer) rest (object ps) x js e p = member_onward k.now outer rest ps x js (member_of k.now ps) refl (λ s ks f q. led_on outer rest s x ks f q) e p

-- ---- changes

same_part : (t x y : Tree) (is js : List ℕ) → is ≡ js → part is t ≡ Some x → part js t ≡ Some y → x ≡ y
same_part t x y is js e p q = let found : Some x ≡ Some y = sym p ∙ ap (λ z. part z t) e ∙ q in cc

-- what is there stays
pub stays_at : (Change : Tree → Tree → Type 0) (steps : List Step) (t x : Tree) (js : List ℕ) → positions_of steps t ≡ Some js → part js t ≡ Some x → Change x x → ChangesAt Change steps t t
stays_at Change steps t x js led there same = record { positions = js; led = led; old = x; new = x; there = there; now = sym (put_itself js t x there); changed = same }

-- after a change the steps lead to what it made
pub leads_after : (Change : Tree → Tree → Type 0) (steps : List Step) (t u : Tree) (c : ChangesAt Change steps t u) → (positions_of steps u ≡ Some c.positions) × (part c.positions u ≡ Some c.new)
leads_after Change steps t u c =
    (ap (positions_of steps) c.now ∙ led_put steps t c.old c.new c.positions c.led c.there, ap (part c.positions) c.now ∙ part_put c.positions t c.old c.new c.there)

-- two changes one after the other
pub changes_twice : (First Second Both : Tree → Tree → Type 0) (steps : List Step) (t m u : Tree) → ((x y z : Tree) → First x y → Second y z → Both x z) → ChangesAt First steps t m → ChangesAt Second steps m u → ChangesAt Both steps t u
changes_twice First Second Both steps t m u both a b =
    let (led, there) = leads_after First steps t m a in
    let found : Some b.positions ≡ Some a.positions = sym b.led ∙ led in
    let at : b.positions ≡ a.positions = cc in
    let same : b.old ≡ a.new = same_part m b.old a.new b.positions a.positions at b.there there in
    record {
      positions = a.positions;
      led = a.led;
      old = a.old;
      new = b.new;
      there = a.there;
      now = b.now ∙ ap (λ z. put z m b.new) at ∙ ap (λ z. put a.positions z b.new) a.now ∙ put_twice a.positions t a.new b.new;
      changed = both a.old a.new b.new a.changed (subst (λ z. Second z b.new) same b.changed);
    }

mapped : (js is : List ℕ) (r : Option (List ℕ)) → option_map (λ ks. js ++ ks) r ≡ Some is → (ks : List ℕ) × (r ≡ Some ks) × (is ≡ js ++ ks)
mapped js is None e = absurd (cc)
mapped js is (Some ks) e = let at : is ≡ js ++ ks = cc in (ks, refl, at)

-- a change further in is a change of what is there
pub changes_within : (Change : Tree → Tree → Type 0) (outer rest : List Step) (t u x : Tree) (js : List ℕ) → positions_of outer t ≡ Some js → part js t ≡ Some x → ChangesAt Change (outer ++ rest) t u → ChangesAt (ChangesAt Change rest) outer t u
changes_within Change outer rest t u x js led there c =
    let (ks, on, at) = mapped js c.positions (positions_of rest x) (sym (led_on outer rest t x js led there) ∙ c.led) in
    record {
      positions = js;
      led = led;
      old = x;
      new = put ks x c.new;
      there = there;
      now = c.now ∙ ap (λ z. put z t c.new) at ∙ put_on js ks t x c.new there;
      changed = record { positions = ks; led = on; old = c.old; new = c.new; there = sym (part_on js ks t x there) ∙ ap (λ z. part z t) (sym at) ∙ c.there; now = refl; changed = c.changed };
    }

pub no_more_steps : (js : List ℕ) (r : Option (List ℕ)) → option_map (λ ks. js ++ ks) r ≡ None → r ≡ None
no_more_steps js None e = refl
no_more_steps js (Some ks) e = absurd (cc)

pub led_by_key : (k : Bor (List ℕ)) (t : Tree) → positions_of (step.Key k ∷ []) t ≡ None → HasKey k.now t → ⊥
led_by_key k null e h = h
led_by_key k (boolean b) e h = h
led_by_key k (number n) e h = h
led_by_key k (text u b) e h = h
led_by_key k (array ts) e h = h
led_by_key k (object ps) e ((i, s), is) = let found : None ≡ Some (i ∷ []) = sym e ∙ ap (in_member (positions_of [])) is in absurd (cc)

-- where a step to a key leads nowhere there is no such member
pub lacks_key : (outer : List Step) (k : Bor (List ℕ)) (t x : Tree) (js : List ℕ) → positions_of outer t ≡ Some js → part js t ≡ Some x → positions_of (outer ++ (step.Key k ∷ [])) t ≡ None → HasKey k.now x → ⊥
lacks_key outer k t x js led there none = led_by_key k x (no_more_steps js (positions_of (step.Key k ∷ []) x) (sym (led_on outer (step.Key k ∷ []) t x js led there) ∙ none))
