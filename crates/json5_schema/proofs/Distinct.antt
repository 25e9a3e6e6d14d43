-- Elements of which no two are equal, from the last one on, and the forms that were seen.
use Rattle.std.proofs.Common.{◌≡◌, ◌∙◌, ◌<◌, ◌≤◌, ◌+◌, ◌-◌, get_or, drop, take, length, zero, suc, arith, ℕ, Bool, true, false, not, ◌&&◌, ◌||◌, List, [], ◌∷◌, refl, sym, ap, true≢false, Vec}
use Rattle.std.specs.declared.alloc.Global.{Global}
use Rattle.std.specs.declared.cmp.Ordering.{Ordering}
use Rattle.std.specs.declared.cmp.Ordering.TheVariants.{Less, Equal, Greater}
use Rattle.std.specs.BTreeSet.{BTreeSet, insert_key}
use Rattle.std.specs.Cmp.Lexicographic.{slice_cmp}
use Rattle.std.specs.List.{list_any}
use Rattle.std.specs.Ordering.{is_eq, match_ordering, nat_cmp}
use Rattle.std.proofs.lemmas.List.{drop_more, length-drop, take_all}
use Rattle.json5_types.specs.declared.value.Value.{Value}
use Rattle.json5_types.specs.ValueMeanings.{Datum, Items, no_item, item, value_of, items_view}
use Rattle.json5_numbers.specs.Sameness.{same_datum}
use Rattle.json5_schema.specs.CanonicalForms.{form, IsSound, AddsForm, SeesForms, has_form}
use Rattle.json5_schema.specs.Conformance.{are_distinct, is_among}
use Rattle.json5_schema.proofs.ValueForms.{one_form}

abbrev Bytes : Type 0
Bytes = Vec ℕ Global

abbrev bytes_cmp : Bytes → Bytes → Ordering
bytes_cmp x y = slice_cmp nat_cmp x.items y.items

or_true : (a : Bool) {b : Bool} → b ≡ true → (a || b) ≡ true
or_true true h = refl
or_true false h = h

-- a key that was there stays
key_stays : (test : Bytes → Bool) (ks : List Bytes) (k : Bytes) → list_any test ks ≡ true → list_any test (insert_key bytes_cmp ks k) ≡ true
key_stays test [] k h = absurd (true≢false (sym h))
key_stays test (x ∷ xs) k h = go (key_stays test xs k) (bytes_cmp k x)
  where
    rest : (list_any test xs ≡ true → list_any test (insert_key bytes_cmp xs k) ≡ true) → (a : Bool) → test x ≡ a → (test x || list_any test (insert_key bytes_cmp xs k)) ≡ true
    rest stays true e = ap (λ b. b || list_any test (insert_key bytes_cmp xs k)) e
    rest stays false e = or_true (test x) (stays (sym (ap (λ b. b || list_any test xs) e) ∙ h))

    go : (list_any test xs ≡ true → list_any test (insert_key bytes_cmp xs k) ≡ true) → (r : Ordering) → list_any test (match_ordering r (k ∷ x ∷ xs) (x ∷ xs) (x ∷ insert_key bytes_cmp xs k)) ≡ true
    go stays Less = or_true (test k) h
    go stays Equal = h
    go stays Greater = rest stays (test x) refl

seen_still : (s n : BTreeSet Bytes) (k : Bytes) (xs : Items) → n.keys ≡ insert_key bytes_cmp s.keys k → SeesForms s xs → SeesForms n xs
seen_still s n k no_item put h = tt
seen_still s n k (item x xs) put h =
    let test = λ (y : Bytes). is_eq (slice_cmp nat_cmp (form x) y.items) in
    (h.0, ap (list_any test) put ∙ key_stays test s.keys k h.1, seen_still s n k xs put h.2)

-- the set that got this form sees it, too
pub form_seen : (s n : BTreeSet Bytes) (k : Bytes) (x : Datum) (xs : Items) → AddsForm [] k.items x → n.keys ≡ insert_key bytes_cmp s.keys k → has_form k.items n ≡ true → SeesForms s xs → SeesForms n (item x xs)
form_seen s n k x xs made put has h = (made.sound, ap (λ f. has_form f n) (sym made.bytes) ∙ has, seen_still s n k xs put h)

-- no element has a form that wasn't seen
none_equal : (s : BTreeSet Bytes) (x : Datum) (xs : Items) → IsSound x → has_form (form x) s ≡ false → SeesForms s xs → is_among x xs ≡ false
none_equal s x no_item sound new h = refl
none_equal s x (item y ys) sound new h = go (none_equal s x ys sound new h.2) (same_datum x y) refl
  where
    go : is_among x ys ≡ false → (b : Bool) → same_datum x y ≡ b → (same_datum x y || is_among x ys) ≡ false
    go none true e = absurd (true≢false (sym h.1 ∙ ap (λ f. has_form f s) (sym (one_form x y sound h.0 e)) ∙ new))
    go none false e = ap (λ b. b || is_among x ys) e ∙ none

pub form_new : (s : BTreeSet Bytes) (k : Bytes) (x : Datum) (xs : Items) (b : Bool) → AddsForm [] k.items x → b ≡ not (has_form k.items s) → b ≡ true → SeesForms s xs → true ≡ not (is_among x xs)
form_new s k x xs b made is new h =
    let none : has_form k.items s ≡ false = negated (has_form k.items s) (sym is ∙ new) in
    ap not (sym (none_equal s x xs made.sound (ap (λ f. has_form f s) (sym made.bytes) ∙ none) h))
  where
    negated : (a : Bool) → not a ≡ true → a ≡ false
    negated true e = sym e
    negated false e = refl

-- ---- a turn

and_false : (a : Bool) → (a && false) ≡ false
and_false true = refl
and_false false = refl

pub tail_differs : (xs : List Value) (i : ℕ) → are_distinct (items_view (drop i xs)) ≡ false → are_distinct (items_view xs) ≡ false
tail_differs xs zero h = h
tail_differs [] (suc i) h = h
tail_differs (x ∷ xs) (suc i) h = rw (tail_differs xs i h) (and_false (not (is_among (value_of x) (items_view xs))))

pub one_more : (xs : List Value) (i n : ℕ) (x : Value) (b : Bool) → i + 1 ≡ n → i < length xs → x ≡ get_or xs i x → b ≡ not (is_among (value_of x) (items_view (drop n xs))) → are_distinct (items_view (drop n xs)) ≡ true
    → are_distinct (items_view (drop i xs)) ≡ b
one_more xs i n x b next h is new were =
    let here : drop i xs ≡ x ∷ drop n xs = drop_more xs i x h ∙ ap (λ (z : Value). z ∷ drop (i + 1) xs) (sym is) ∙ ap (λ m. x ∷ drop m xs) next in
    rw (here, were) (and_true (not (is_among (value_of x) (items_view (drop n xs)))) ∙ sym new)
  where
    and_true : (a : Bool) → (a && true) ≡ a
    and_true true = refl
    and_true false = refl

-- those behind a place, as a slice has them
pub behind_is : (xs : List Value) (i n : ℕ) → i + 1 ≡ n → take (length xs - (i + 1)) (drop (i + 1) xs) ≡ drop n xs
behind_is xs i n next =
    let short : length (drop (i + 1) xs) ≤ length xs - (i + 1) = omega (arith, length-drop (i + 1) xs) in
    take_all (length xs - (i + 1)) (drop (i + 1) xs) short ∙ ap (λ m. drop m xs) next
