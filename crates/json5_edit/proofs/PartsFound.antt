-- The part of a tree that a path leads to, as trees are read one after another.
use Rattle.std.proofs.Common.{◌≡◌, ℕ, zero, suc, Bool, true, false, List, ◌∷◌, refl, ap, sym, ◌∙◌, Option, Some, None, nat_eq}
use Rattle.std.proofs.lemmas.Bool.{eqb-false}
use Rattle.std.specs.Prelude.{option_map}
use Rattle.std.specs.Cmp.Lexicographic.{pointwise}
use Rattle.std.specs.Str.{encode_utf8_all}
use Rattle.json5_grammar.specs.Language.Trees.{Tree, array, object, Trees, Members, no_more, more, no_member, member}
use Rattle.json5_grammar.specs.Model.Collections.{snoc, snoc_member}
use Rattle.json5_walk.specs.Frames.{Frame, in_array, in_object}
use Rattle.json5_edit.specs.Parts.{element_of, later_or, member_of, under, in_element, in_member, positions_of, count, count_members, positions}
use Rattle.json5_edit.specs.Seeks.{Finds}
use Rattle.json5_edit.specs.declared.paths.Step.{Step}
use Rattle.json5_edit.specs.declared.paths.Step.TheVariants as step

-- ---- elements

pub count_snoc : (ts : Trees) (t : Tree) → count (snoc ts t) ≡ suc (count ts)
count_snoc no_more t = refl
count_snoc (more s ts) t = ap suc (count_snoc ts t)

pub count_snoc_member : (ps : Members) (u : List ℕ) (e : Bool) (t : Tree) → count_members (snoc_member ps u e t) ≡ suc (count_members ps)
count_snoc_member no_member u e t = refl
count_snoc_member (member k b s ps) u e t = ap suc (count_snoc_member ps u e t)

element_here : (ts : Trees) (t : Tree) → element_of (count ts) (snoc ts t) ≡ Some t
element_here no_more t = refl
element_here (more s ts) t = element_here ts t

element_elsewhere : (i : ℕ) (ts : Trees) (t : Tree) → (count ts ≡ i → ⊥) → element_of i (snoc ts t) ≡ element_of i ts
element_elsewhere zero no_more t e = absurd (e refl)
element_elsewhere (suc i) no_more t e = refl
element_elsewhere zero (more s ts) t e = refl
element_elsewhere (suc i) (more s ts) t e = element_elsewhere i ts t (λ h. e (ap suc h))

under_map : (o : List Frame) (p : List ℕ → List ℕ) (i : ℕ) (found : Option (List ℕ)) → ((js : List ℕ) → p js ≡ positions o (i ∷ js)) → option_map p found ≡ option_map (positions o) (under i found)
under_map o p i None e = refl
under_map o p i (Some js) e = ap Some (e js)

pub found_element : (o : List Frame) (i : ℕ) (path : List Step) (ts : Trees) (t : Tree) (m : Option (List Frame)) → count ts ≡ i → Finds (in_array ts ∷ o) path t m → Finds o (step.Index i ∷ path) (array (snoc ts t)) m
found_element o i path ts t m e f =
    f ∙ under_map o (positions (in_array ts ∷ o)) (count ts) (positions_of path t) (λ js. refl)
    ∙ ap (λ n. option_map (positions o) (under n (positions_of path t))) e
    ∙ ap (λ r. option_map (positions o) (in_element i (positions_of path) r)) (sym (ap (λ n. element_of n (snoc ts t)) (sym e) ∙ element_here ts t))

pub same_element : (o : List Frame) (i : ℕ) (path : List Step) (ts : Trees) (t : Tree) (m : Option (List Frame)) → nat_eq (count ts) i ≡ false → Finds o (step.Index i ∷ path) (array ts) m → Finds o (step.Index i ∷ path) (array (snoc ts t)) m
same_element o i path ts t m e f = f ∙ ap (λ r. option_map (positions o) (in_element i (positions_of path) r)) (sym (element_elsewhere i ts t (eqb-false (count ts) i e)))

-- ---- members

member_here : (k : List ℕ) (ps : Members) (u : List ℕ) (b : Bool) (t : Tree) → pointwise nat_eq (encode_utf8_all u) k ≡ true → member_of k (snoc_member ps u b t) ≡ Some (count_members ps, t)
member_here k no_member u b t e = ap (λ r. later_or None r t) e
member_here k (member v c s ps) u b t e = ap (λ r. later_or r (pointwise nat_eq (encode_utf8_all v) k) s) (member_here k ps u b t e)

member_elsewhere : (k : List ℕ) (ps : Members) (u : List ℕ) (b : Bool) (t : Tree) → pointwise nat_eq (encode_utf8_all u) k ≡ false → member_of k (snoc_member ps u b t) ≡ member_of k ps
member_elsewhere k no_member u b t e = ap (λ r. later_or None r t) e
member_elsewhere k (member v c s ps) u b t e = ap (λ r. later_or r (pointwise nat_eq (encode_utf8_all v) k) s) (member_elsewhere k ps u b t e)

pub found_member : (o : List Frame) (k : Step) (key : List ℕ) (path : List Step) (ps : Members) (u : List ℕ) (b : Bool) (t : Tree) (m : Option (List Frame)) → ((qs : Members) → positions_of (k ∷ path) (object qs) ≡ in_member (positions_of path) (member_of key qs)) → pointwise nat_eq (encode_utf8_all u) key ≡ true → Finds (in_object ps u b ∷ o) path t m → Finds o (k ∷ path) (object (snoc_member ps u b t)) m
found_member o k key path ps u b t m is e f =
    f ∙ under_map o (positions (in_object ps u b ∷ o)) (count_members ps) (positions_of path t) (λ js. refl)
    ∙ ap (λ r. option_map (positions o) (in_member (positions_of path) r)) (sym (member_here key ps u b t e))
    ∙ ap (option_map (positions o)) (sym (is (snoc_member ps u b t)))

pub same_member : (o : List Frame) (k : Step) (key : List ℕ) (path : List Step) (ps : Members) (u : List ℕ) (b : Bool) (t : Tree) (m : Option (List Frame)) → ((qs : Members) → positions_of (k ∷ path) (object qs) ≡ in_member (positions_of path) (member_of key qs)) → pointwise nat_eq (encode_utf8_all u) key ≡ false → Finds o (k ∷ path) (object ps) m → Finds o (k ∷ path) (object (snoc_member ps u b t)) m
same_member o k key path ps u b t m is e f =
    f ∙ ap (option_map (positions o)) (is ps ∙ ap (in_member (positions_of path)) (sym (member_elsewhere key ps u b t e)) ∙ sym (is (snoc_member ps u b t)))
