-- The contents of an array's elements, one at a time.
use Rattle.std.proofs.Common.{◌≡◌, List, [], ◌∷◌, ◌++◌, refl, Option, Some, None}
use Rattle.json5_grammar.specs.Language.Trees.{Tree, Trees, no_more, more}
use Rattle.json5_grammar.specs.Model.Collections.{snoc, both, contents}

-- the parts of a list that has one
pub both_parts : {C : Type 0} (o : Option C) (p : Option (List C)) (cs : List C) → both o p ≡ Some cs → (c : C) × (rest : List C) × (o ≡ Some c) × (p ≡ Some rest) × (cs ≡ c ∷ rest)
both_parts None p cs h = absurd (cc)
both_parts (Some c) None cs h = absurd (cc)
both_parts (Some c) (Some rest) cs h = (c, rest, refl, refl, cc)

-- one more after a list
pub one_after : {C : Type 0} (d c : C) (rest cs : List C) (o : Option C) (q : Option (List C)) → o ≡ Some d → q ≡ Some (rest ++ c ∷ []) → cs ≡ d ∷ rest → both o q ≡ Some (cs ++ c ∷ [])
one_after d c rest cs o q a b e = rw (a, b, e) refl

-- one more element's content
pub contents_snoc : {C : Type 0} (f : Tree → Option C) (ts : Trees) (t : Tree) (cs : List C) (c : C) → contents f ts ≡ Some cs → f t ≡ Some c → contents f (snoc ts t) ≡ Some (cs ++ c ∷ [])
contents_snoc f no_more t cs c h e = let none : [] ≡ cs = cc in rw (e, ← none) refl
contents_snoc f (more u us) t cs c h e =
    let (d, rest, is, are, k) = both_parts (f u) (contents f us) cs h in
    one_after d c rest cs (f u) (contents f (snoc us t)) is (contents_snoc f us t rest c are e) k
