-- Twins in a list that is gone through.
use Rattle.std.proofs.Common.{◌≡◌, ◌∙◌, ◌+◌, ◌<◌, ◌&&◌, ◌||◌, ℕ, Bool, true, false, List, [], ◌∷◌, ◌++◌, length, map, take, drop, refl, sym, ap, get_or, take-append-drop}
use Rattle.std.specs.Prelude.{cond, not}
use Rattle.std.specs.Borrow.{Bor}
use Rattle.std.specs.BTreeSet.{BTreeSet, contains_by}
use Rattle.std.specs.declared.cmp.Ordering.{Ordering}
use Rattle.std.specs.Ordering.{eq_by_cmp, is_eq}
use Rattle.std.specs.List.{list_any}
use Rattle.std.proofs.Math.Path.{fun_ext}
use Rattle.std.proofs.lemmas.Bool.{false≢true}
use Rattle.std.proofs.lemmas.List.{take_more}
use Rattle.std.proofs.lemmas.List.Folds.{list_any-append}
use Rattle.json5_settings_types.specs.Twins.{HasElements, is_like_one, no_twins}

parted : (a s n l : Bool) → (not (a || (s || false)) && (n && not l)) ≡ ((not a && n) && not (s || l))
parted true s n l = refl
parted false true true l = refl
parted false true false l = refl
parted false false true l = refl
parted false false false true = refl
parted false false false false = refl

module _ {C : Type 0} (same : C → C → Bool) where
  -- one element more
  pub snoc : (cs : List C) (c : C) → no_twins same (cs ++ c ∷ []) ≡ (no_twins same cs && not (is_like_one same cs c))
  snoc [] c = refl
  snoc (d ∷ cs) c = rw (list_any-append (same d) cs (c ∷ []), snoc cs c) (parted (list_any (same d) cs) (same d c) (no_twins same cs) (is_like_one same cs c))

  -- twins in front are twins of the whole
  pub in_front : (xs ys : List C) → no_twins same xs ≡ false → no_twins same (xs ++ ys) ≡ false
  in_front [] ys is = absurd (false≢true (sym is))
  in_front (x ∷ xs) ys is = rw (list_any-append (same x) xs ys) (by (list_any (same x) xs) (no_twins same xs) is (in_front xs ys))
    where
      by : (a n : Bool) → (not a && n) ≡ false → (n ≡ false → no_twins same (xs ++ ys) ≡ false) → (not (a || list_any (same x) ys) && no_twins same (xs ++ ys)) ≡ false
      by true n e rest = refl
      by false true e rest = absurd (false≢true (sym e))
      by false false e rest = rw (rest refl) (none (list_any (same x) ys))
        where
          none : (b : Bool) → (not b && false) ≡ false
          none true = refl
          none false = refl

  module _ (vs : List C) (i : ℕ) (v : C) (inside : i < length vs) (is : v ≡ get_or vs i v) where
    pub one_more : take (i + 1) vs ≡ take i vs ++ v ∷ []
    one_more = take_more vs i v inside ∙ ap (λ w. take i vs ++ w ∷ []) (sym is)

    tested : (b : Bool) → b ≡ is_like_one same (take i vs) v → no_twins same (take i vs) ≡ true → no_twins same (take (i + 1) vs) ≡ not b
    tested b like none = ap (no_twins same) one_more ∙ snoc (take i vs) v ∙ ap (λ n. n && not (is_like_one same (take i vs) v)) none ∙ ap not (sym like)

    pub still_none : (b : Bool) → b ≡ is_like_one same (take i vs) v → b ≡ false → no_twins same (take i vs) ≡ true → no_twins same (take (i + 1) vs) ≡ true
    still_none b like differs none = tested b like none ∙ ap not differs

    pub twin_found : (b : Bool) → b ≡ is_like_one same (take i vs) v → b ≡ true → no_twins same (take i vs) ≡ true → no_twins same vs ≡ false
    twin_found b like alike none =
        let front = tested b like none ∙ ap not alike in
        ap (no_twins same) (sym (take-append-drop (i + 1) vs)) ∙ in_front (take (i + 1) vs) (drop (i + 1) vs) front

among : {V C : Type 0} (same : C → C → Bool) (alike : V → V → Bool) (content : V → C) → ((x y : V) → same (content x) (content y) ≡ alike x y) → (v : V) (vs : List V) → list_any (same (content v)) (map content vs) ≡ list_any (alike v) vs
among same alike content tells v [] = refl
among same alike content tells v (w ∷ vs) = rw (tells v w, among same alike content tells v vs) refl

-- what a function tells apart as another does its values
pub told : {V C : Type 0} (same : C → C → Bool) (alike : V → V → Bool) (content : V → C) → ((x y : V) → same (content x) (content y) ≡ alike x y) → (vs : List V) → no_twins same (map content vs) ≡ no_twins alike vs
told same alike content tells [] = refl
told same alike content tells (v ∷ vs) = rw (among same alike content tells v vs, told same alike content tells vs) refl

-- ---- the elements that were seen

or_cond : (a l : Bool) → cond a true l ≡ (l || (a || false))
or_cond true true = refl
or_cond true false = refl
or_cond false true = refl
or_cond false false = refl

-- the set that got this element has it, too
pub element_seen : {V : Type 0} (cmp : V → V → Ordering) (s n : BTreeSet (Bor V)) (vs : List V) (k : V) → HasElements cmp s vs
    → ((q : Bor V) → contains_by (λ y. cmp q.now y.now) n ≡ cond (is_eq (cmp k q.now)) true (contains_by (λ y. cmp q.now y.now) s)) → HasElements cmp n (vs ++ k ∷ [])
element_seen cmp s n vs k were added = λ q.
    added q ∙ ap (cond (is_eq (cmp k q.now)) true) (were q) ∙ or_cond (is_eq (cmp k q.now)) (is_like_one (eq_by_cmp cmp) vs q.now) ∙ sym (list_any-append (λ d. eq_by_cmp cmp d q.now) vs (k ∷ []))

-- what an order tells apart as a test does
pub by_order : {V : Type 0} (same : V → V → Bool) (cmp : V → V → Ordering) → ((x y : V) → same x y ≡ eq_by_cmp cmp x y) → (vs : List V) → no_twins same vs ≡ no_twins (eq_by_cmp cmp) vs
by_order same cmp ties vs = ap (λ s. no_twins s vs) (fun_ext (λ x. fun_ext (λ y. ties x y)))
