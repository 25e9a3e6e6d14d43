-- The entries of a map, inserted into an empty one in their order, make it again.
use Rattle.std.proofs.Common.{◌≡◌, Bool, false, List, [], ◌∷◌, ◌++◌, map, refl, sym, ap, ◌∙◌, append_assoc, append-nil}
use Rattle.std.specs.Prelude.{fold, ⊤}
use Rattle.std.specs.Ordering.{ordering_reverse}
use Rattle.std.specs.declared.cmp.Ordering.{Ordering}
use Rattle.std.specs.declared.cmp.Ordering.TheVariants.{Less, Greater}
use Rattle.std.specs.Cmp.{IsTotalOrder, IsEquivalence}
use Rattle.std.specs.List.{AllByRecursion, IsDistinct}
use Rattle.std.specs.List.Sorted.{IsStrictlySortedBy}
use Rattle.std.specs.Map.{keys_of}
use Rattle.std.specs.BTreeMap as tree
use Rattle.indexmap.specs.IndexMap.{insert_entry}
use Rattle.json5_de.specs.Maps.{pair_content, in_key_order, in_insertion_order}
use Rattle.json5_de.proofs.MapContents.{order_content, turn_content}
use Rattle.json5.specs.ReadsBack.{OrderStays, TurnStays}

-- each has this relation to those after it
abbrev Pairwise : {K : Type 0} → (K → K → Type 0) → List K → Type 0
Pairwise R [] = ⊤
Pairwise R (x ∷ xs) = AllByRecursion (R x) xs × Pairwise R xs

sorted : {K : Type 0} (cmp : K → K → Ordering) (ks : List K) → IsStrictlySortedBy cmp ks → Pairwise (λ x y. cmp x y ≡ Less) ks
unfolding IsStrictlySortedBy
sorted cmp [] s = tt
sorted cmp (k ∷ ks) s = (s.0, sorted cmp ks s.1)

distinct : {K : Type 0} (eq : K → K → Bool) (ks : List K) → IsDistinct eq ks → Pairwise (λ x y. eq x y ≡ false) ks
unfolding IsDistinct
distinct eq [] s = tt
distinct eq (k ∷ ks) s = (s.0, distinct eq ks s.1)

-- a key that has this relation to each that is there goes to the end
module _ {K V : Type 0} (R : K → K → Type 0) (insert : List (K × V) → K → V → List (K × V)) (last : (es : List (K × V)) (k : K) (v : V) → AllByRecursion (λ x. R x k) (keys_of es) → insert es k v ≡ es ++ (k, v) ∷ []) where
  abbrev Before : List (K × V) → K → Type 0
  Before es k = AllByRecursion (λ x. R x k) (keys_of es)

  before_more : (es : List (K × V)) (e : K × V) (k : K) → Before es k → R e.0 k → Before (es ++ e ∷ []) k
  before_more [] e k h r = (r, tt)
  before_more (d ∷ es) e k h r = (h.0, before_more es e k h.1 r)

  abbrev After : List (K × V) → List (K × V) → Type 0
  After done es = AllByRecursion (Before done) (keys_of es)

  after_more : (done es : List (K × V)) (e : K × V) → After done es → AllByRecursion (R e.0) (keys_of es) → After (done ++ e ∷ []) es
  after_more done [] e h r = tt
  after_more done (f ∷ es) e h r = (before_more done e f.0 h.0 r.0, after_more done es e h.1 r.1)

  put_all : (done es : List (K × V)) → After done es → Pairwise R (keys_of es) → fold (λ d p. insert d p.0 p.1) done es ≡ done ++ es
  put_all done [] h s = sym (append-nil done)
  put_all done (e ∷ es) h s =
      ap (λ d. fold (λ d p. insert d p.0 p.1) d es) (last done e.0 e.1 h.0) ∙ (put_all (done ++ e ∷ []) es (after_more done es e h.1 s.0) s.1 ∙ append_assoc done (e ∷ []) es)

  nothing_before : (es : List (K × V)) → After [] es
  nothing_before [] = tt
  nothing_before (e ∷ es) = (tt, nothing_before es)

  made_again : (es : List (K × V)) → Pairwise R (keys_of es) → fold (λ d p. insert d p.0 p.1) [] es ≡ es
  made_again es s = put_all [] es (nothing_before es) s

module _ {K V : Type 0} (cmp : K → K → Ordering) (total : IsTotalOrder cmp) where
  put_last : (es : List (K × V)) (k : K) (v : V) → AllByRecursion (λ x. cmp x k ≡ Less) (keys_of es) → tree.insert_entry cmp es k v ≡ es ++ (k, v) ∷ []
  put_last [] k v h = refl
  put_last (e ∷ es) k v h = let above : cmp k e.0 ≡ Greater = total.antisymm k e.0 ∙ ap ordering_reverse h.0 in rw (above) (ap (λ l. e ∷ l) (put_last es k v h.1))

  order_again : (es : List (K × V)) → IsStrictlySortedBy cmp (keys_of es) → in_key_order cmp es ≡ es
  order_again es s = made_again (λ x y. cmp x y ≡ Less) (tree.insert_entry cmp) put_last es (sorted cmp (keys_of es) s)

module _ {K V : Type 0} (eq : K → K → Bool) (equivalence : IsEquivalence eq) where
  put_new : (es : List (K × V)) (k : K) (v : V) → AllByRecursion (λ x. eq x k ≡ false) (keys_of es) → insert_entry eq es k v ≡ es ++ (k, v) ∷ []
  put_new [] k v h = refl
  put_new (e ∷ es) k v h = let other : eq k e.0 ≡ false = equivalence.symm k e.0 ∙ h.0 in rw (other) (ap (λ l. e ∷ l) (put_new es k v h.1))

  turn_again : (es : List (K × V)) → IsDistinct eq (keys_of es) → in_insertion_order eq es ≡ es
  turn_again es s = made_again (λ x y. eq x y ≡ false) (insert_entry eq) put_new es (distinct eq (keys_of es) s)

pub order_stays : {K V C D : Type 0} (key : K → C) (value : V → D) (cmp : K → K → Ordering) → IsTotalOrder cmp → OrderStays key value cmp
order_stays key value cmp total es test s tells = sym (order_content key value cmp test tells es) ∙ ap (map (pair_content key value)) (order_again cmp total es s)

pub turn_stays : {K V C D : Type 0} (key : K → C) (value : V → D) (eq : K → K → Bool) → IsEquivalence eq → TurnStays key value eq
turn_stays key value eq equivalence es test s tells = sym (turn_content key value eq test tells es) ∙ ap (map (pair_content key value)) (turn_again eq equivalence es s)
