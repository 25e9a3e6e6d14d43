-- The contents of an object's members, one at a time.
use Rattle.std.proofs.Common.{◌≡◌, ℕ, Bool, List, [], ◌∷◌, ◌++◌, refl, ap, Option, Some, None}
use Rattle.json5_grammar.specs.Language.Trees.{Tree, Members, null, boolean, number, text, array, object, no_member, member}
use Rattle.json5_grammar.specs.Model.Collections.{joined_members, snoc_member, joint, pair_contents, object_of}
use Rattle.json5_grammar.proofs.ElementsConverted.{both_parts, one_after}

joint_parts : {K V : Type 0} (o : Option K) (p : Option V) (c : K × V) → joint o p ≡ Some c → (o ≡ Some c.0) × (p ≡ Some c.1)
joint_parts None p c h = absurd (cc)
joint_parts (Some k) None c h = absurd (cc)
joint_parts (Some k) (Some v) c h = (ap (first_of k) h, ap (second_of v) h)
  where
    first_of : {K V : Type 0} → K → Option (K × V) → Option K
    first_of k None = None
    first_of k (Some c) = Some c.0

    second_of : {K V : Type 0} → V → Option (K × V) → Option V
    second_of v None = None
    second_of v (Some c) = Some c.1

-- one more pair's content
pub pair_contents_snoc : {K V : Type 0} (g : List ℕ → Bool → Option K) (f : Tree → Option V) (ps : Members) (u : List ℕ) (p : Bool) (t : Tree) (cs : List (K × V)) (k : K) (v : V)
    → pair_contents g f ps ≡ Some cs → g u p ≡ Some k → f t ≡ Some v → pair_contents g f (snoc_member ps u p t) ≡ Some (cs ++ (k, v) ∷ [])
pair_contents_snoc g f no_member u p t cs k v h a b = let none : [] ≡ cs = cc in rw (a, b, ← none) refl
pair_contents_snoc g f (member w m s ps) u p t cs k v h a b =
    let (d, rest, is, are, e) = both_parts (joint (g w m) (f s)) (pair_contents g f ps) cs h in
    one_after d (k, v) rest cs (joint (g w m) (f s)) (pair_contents g f (snoc_member ps u p t)) is (pair_contents_snoc g f ps u p t rest k v are a b) e

-- a pair's content
pub pair_contents_at : {K V : Type 0} (g : List ℕ → Bool → Option K) (f : Tree → Option V) (ps qs : Members) (u : List ℕ) (p : Bool) (t : Tree) (cs : List (K × V))
    → pair_contents g f (joined_members ps (member u p t qs)) ≡ Some cs → (k : K) × (v : V) × (g u p ≡ Some k) × (f t ≡ Some v)
pair_contents_at g f no_member qs u p t cs h =
    let (c, rest, is, are, e) = both_parts (joint (g u p) (f t)) (pair_contents g f qs) cs h in
    let (a, b) = joint_parts (g u p) (f t) c is in
    (c.0, c.1, a, b)
pair_contents_at g f (member w m s ps) qs u p t cs h =
    let (c, rest, is, are, e) = both_parts (joint (g w m) (f s)) (pair_contents g f (joined_members ps (member u p t qs))) cs h in
    pair_contents_at g f ps qs u p t rest are

-- only an object has the content of one
pub object_only : {C : Type 0} (f : Members → Option C) (t : Tree) (v : C) → object_of f t ≡ Some v → (ps : Members) × (t ≡ object ps) × (f ps ≡ Some v)
object_only f null v h = absurd (cc)
object_only f (boolean b) v h = absurd (cc)
object_only f (number n) v h = absurd (cc)
object_only f (text u p) v h = absurd (cc)
object_only f (array ts) v h = absurd (cc)
object_only f (object ps) v h = (ps, refl, h)
