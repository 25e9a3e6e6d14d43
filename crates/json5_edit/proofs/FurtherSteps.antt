-- A path with further steps, from the part that it leads to.
use Rattle.std.proofs.Common.{◌≡◌, ℕ, zero, suc, Bool, true, false, List, [], ◌∷◌, ◌++◌, refl, ap, sym, ◌∙◌, Option, Some, None, nat_eq}
use Rattle.std.specs.Cmp.Lexicographic.{pointwise}
use Rattle.std.specs.Str.{encode_utf8_all}
use Rattle.json5_grammar.specs.Language.Trees.{Tree, null, boolean, number, text, array, object, Trees, Members, no_more, more, no_member, member}
use Rattle.json5_edit.specs.Parts.{part, part_at, part_under, element_of, later_or, member_of, under, in_element, in_member, positions_of}
use Rattle.json5_edit.specs.declared.paths.Step.{Step}
use Rattle.json5_edit.specs.declared.paths.Step.TheVariants as step

-- ---- parts of a collection

part_of_element : (i : ℕ) (path : List ℕ) (ts : Trees) (t : Tree) → element_of i ts ≡ Some t → part_at i path ts ≡ part path t
part_of_element i path no_more t e = absurd (cc)
part_of_element zero path (more s ts) t e = let same : s ≡ t = cc in ap (part path) same
part_of_element (suc i) path (more s ts) t e = part_of_element i path ts t e

abbrev index_or : ℕ → Option (ℕ × Tree) → ℕ
index_or i None = i
index_or i (Some (j, t)) = j

abbrev value_or : Tree → Option (ℕ × Tree) → Tree
value_or s None = s
value_or s (Some (j, t)) = t

part_of_later : (path : List ℕ) (ps : Members) (u : List ℕ) (b : Bool) (s : Tree) (r : Option (ℕ × Tree)) (same : Bool) (i : ℕ) (t : Tree) → ((j : ℕ) → r ≡ Some (j, t) → part_under j path ps ≡ part path t)
    → later_or r same s ≡ Some (i, t) → part_under i path (member u b s ps) ≡ part path t
part_of_later path ps u b s (Some (j, v)) same i t rest e =
    let index : suc j ≡ i = ap (index_or 0) e in
    let value : v ≡ t = ap (value_or s) e in
    ap (λ n. part_under n path (member u b s ps)) (sym index) ∙ rest j (ap (λ z. Some (j, z)) value)
part_of_later path ps u b s None true i t rest e =
    let index : 0 ≡ i = ap (index_or 0) e in
    let value : s ≡ t = ap (value_or s) e in
    ap (λ n. part_under n path (member u b s ps)) (sym index) ∙ ap (part path) value
part_of_later path ps u b s None false i t rest e = absurd (cc)

part_of_member : (k path : List ℕ) (ps : Members) (i : ℕ) (t : Tree) → member_of k ps ≡ Some (i, t) → part_under i path ps ≡ part path t
part_of_member k path no_member i t e = absurd (cc)
part_of_member k path (member u b s ps) i t e = part_of_later path ps u b s (member_of k ps) (pointwise nat_eq (encode_utf8_all u) k) i t (λ j f. part_of_member k path ps j t f) e

-- ---- further steps lead nowhere

under_some : (i : ℕ) (js : List ℕ) (found : Option (List ℕ)) → under i found ≡ Some js → (ks : List ℕ) × (found ≡ Some ks) × (js ≡ i ∷ ks)
under_some i js None e = absurd (cc)
under_some i js (Some ks) e = let is : js ≡ i ∷ ks = cc in (ks, refl, is)

under_none : (i : ℕ) (found : Option (List ℕ)) → under i found ≡ None → found ≡ None
under_none i None e = refl
under_none i (Some ks) e = absurd (cc)

element_on : (i : ℕ) (outer rest : List Step) (ts : Trees) (t : Tree) (js : List ℕ) (r : Option Tree) → element_of i ts ≡ r
    → ((s : Tree) (ks : List ℕ) → positions_of outer s ≡ Some ks → part ks s ≡ Some t → positions_of (outer ++ rest) s ≡ None)
    → in_element i (positions_of outer) r ≡ Some js → part js (array ts) ≡ Some t → in_element i (positions_of (outer ++ rest)) r ≡ None
element_on i outer rest ts t js None is k e p = refl
element_on i outer rest ts t js (Some s) is k e p =
    let (ks, led, at) = under_some i js (positions_of outer s) e in
    ap (under i) (k s ks led (sym (part_of_element i ks ts s is) ∙ ap (λ z. part z (array ts)) (sym at) ∙ p))

member_on : (key : List ℕ) (outer rest : List Step) (ps : Members) (t : Tree) (js : List ℕ) (r : Option (ℕ × Tree)) → member_of key ps ≡ r
    → ((s : Tree) (ks : List ℕ) → positions_of outer s ≡ Some ks → part ks s ≡ Some t → positions_of (outer ++ rest) s ≡ None)
    → in_member (positions_of outer) r ≡ Some js → part js (object ps) ≡ Some t → in_member (positions_of (outer ++ rest)) r ≡ None
member_on key outer rest ps t js None is k e p = refl
member_on key outer rest ps t js (Some (i, s)) is k e p =
    let (ks, led, at) = under_some i js (positions_of outer s) e in
    ap (under i) (k s ks led (sym (part_of_member key ks ps i s is) ∙ ap (λ z. part z (object ps)) (sym at) ∙ p))

-- from the part that the path leads to
pub led_nowhere : (outer rest : List Step) (w t : Tree) (js : List ℕ) → positions_of outer w ≡ Some js → part js w ≡ Some t → positions_of rest t ≡ None → positions_of (outer ++ rest) w ≡ None
led_nowhere [] rest w t js e p n =
    let here : [] ≡ js = cc in
    let there : Some w ≡ Some t = ap (λ z. part z w) here ∙ p in
    let same : w ≡ t = cc in
    ap (positions_of rest) same ∙ n
led_nowhere (step.Index i ∷ outer) rest null t js e p n = refl
led_nowhere (step.Index i ∷ outer) rest (boolean b) t js e p n = refl
led_nowhere (step.Index i ∷ outer) rest (number q) t js e p n = refl
led_nowhere (step.Index i ∷ outer) rest (text u b) t js e p n = refl
led_nowhere (step.Index i ∷ outer) rest (array ts) t js e p n = element_on i outer rest ts t js (element_of i ts) refl (λ s ks f q. led_nowhere outer rest s t ks f q n) e p
led_nowhere (step.Index i ∷ outer) rest (object ps) t js e p n = refl
led_nowhere (step.Key k ∷ outer) rest null t js e p n = refl
led_nowhere (step.Key k ∷ outer) rest (boolean b) t js e p n = refl
led_nowhere (step.Key k ∷ outer) rest (number q) t js e p n = refl
led_nowhere (step.Key k ∷ outer) rest (text u b) t js e p n = refl
led_nowhere (step.Key k ∷ outer) rest (array ts) t js e p n = refl
led_nowhere (step.Key k ∷ outer) rest (object ps) t js e p n = member_on k.now outer rest ps t js (member_of k.now ps) refl (λ s ks f q. led_nowhere outer rest s t ks f q n) e p

element_nowhere : (i : ℕ) (outer rest : List Step) (r : Option Tree) → ((s : Tree) → positions_of outer s ≡ None → positions_of (outer ++ rest) s ≡ None)
    → in_element i (positions_of outer) r ≡ None → in_element i (positions_of (outer ++ rest)) r ≡ None
element_nowhere i outer rest None k e = refl
element_nowhere i outer rest (Some s) k e = ap (under i) (k s (under_none i (positions_of outer s) e))

member_nowhere : (outer rest : List Step) (r : Option (ℕ × Tree)) → ((s : Tree) → positions_of outer s ≡ None → positions_of (outer ++ rest) s ≡ None)
    → in_member (positions_of outer) r ≡ None → in_member (positions_of (outer ++ rest)) r ≡ None
member_nowhere outer rest None k e = refl
member_nowhere outer rest (Some (i, s)) k e = ap (under i) (k s (under_none i (positions_of outer s) e))

-- where the path leads nowhere itself
pub nowhere_on : (outer rest : List Step) (w : Tree) → positions_of outer w ≡ None → positions_of (outer ++ rest) w ≡ None
nowhere_on [] rest w e = absurd (cc)
nowhere_on (step.Index i ∷ outer) rest null e = refl
nowhere_on (step.Index i ∷ outer) rest (boolean b) e = refl
nowhere_on (step.Index i ∷ outer) rest (number q) e = refl
nowhere_on (step.Index i ∷ outer) rest (text u b) e = refl
nowhere_on (step.Index i ∷ outer) rest (array ts) e = element_nowhere i outer rest (element_of i ts) (λ s f. nowhere_on outer rest s f) e
nowhere_on (step.Index i ∷ outer) rest (object ps) e = refl
nowhere_on (step.Key k ∷ outer) rest null e = refl
nowhere_on (step.Key k ∷ outer) rest (boolean b) e = refl
nowhere_on (step.Key k ∷ outer) rest (number q) e = refl
nowhere_on (step.Key k ∷ outer) rest (text u b) e = refl
nowhere_on (step.Key k ∷ outer) rest (array ts) e = refl
nowhere_on (step.Key k ∷ outer) rest (object ps) e = member_nowhere outer rest (member_of k.now ps) (λ s f. nowhere_on outer rest s f) e
