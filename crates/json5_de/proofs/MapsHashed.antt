-- What is found in a hashed map, whose entries are in any order.
use Rattle.std.proofs.Common.{◌≡◌, Bool, true, false, List, [], ◌∷◌, ◌++◌, map, refl, sym, ap, ◌∙◌, subst, Option, Some, None}
use Rattle.std.specs.Prelude.{if◌then◌else◌, cond, is_some, IsSome}
use Rattle.std.specs.Cmp.{IsEquivalence}
use Rattle.std.specs.List.{IsDistinct}
use Rattle.std.specs.List.Sorted.{IsPermutation}
use Rattle.std.specs.HashMap.{HashMap, IsUnique, PutsEntry, get}
use Rattle.std.specs.Map.{keys_of, lookup, lookup_entry, set_value}
use Rattle.std.proofs.lemmas.List.Sorted.{IsPermutation-map}
use Rattle.indexmap.proofs.MapLemmas.{lookup_permutation}
use Rattle.json5_de.specs.Maps.{last_value, found_in}

-- what is found after p was inserted too
abbrev pub found_more : {K V : Type 0} → (K → Bool) → K × V → Option (K × V) → Option (K × V)
found_more test p None = if test p.0 then Some p else None
found_more test p (Some e) = Some (e.0, if test p.0 then p.1 else e.1)

module _ {K V : Type 0} (test : K → Bool) (p : K × V) where
  last_more : (v : V) (ps : List (K × V)) → last_value test v (ps ++ p ∷ []) ≡ (if test p.0 then p.1 else last_value test v ps)
  last_more v [] = refl
  last_more v (e ∷ ps) = last_more (if test e.0 then e.1 else v) ps

  -- among the pairs that were read
  pub found_next : (ps : List (K × V)) → found_in test (ps ++ p ∷ []) ≡ found_more test p (found_in test ps)
  found_next [] = refl
  found_next (e ∷ ps) = by (test e.0) refl (found_next ps)
    where
      by : (b : Bool) → test e.0 ≡ b → found_in test (ps ++ p ∷ []) ≡ found_more test p (found_in test ps) → found_in test (e ∷ ps ++ p ∷ []) ≡ found_more test p (found_in test (e ∷ ps))
      by true h k = rw h (ap (λ d. Some (e.0, d)) (last_more e.1 ps))
      by false h k = rw h k

  -- another key changes nothing
  other_stays : test p.0 ≡ false → (o : Option (K × V)) → found_more test p o ≡ o
  other_stays h None = rw h refl
  other_stays h (Some e) = rw h refl

-- ---- look-ups of a whole entry

abbrev pub whole : {K V : Type 0} → List (K × V) → List (K × (K × V))
whole es = map (λ e. (e.0, e)) es

module _ {K V : Type 0} where
  in_whole : (test : K → Bool) (es : List (K × V)) → lookup test (whole es) ≡ lookup_entry test es
  in_whole test [] = refl
  in_whole test (e ∷ es) = ap (cond (test e.0) (Some e)) (in_whole test es)

  keys_whole : (es : List (K × V)) → keys_of (whole es) ≡ keys_of es
  keys_whole [] = refl
  keys_whole (e ∷ es) = ap (λ ks. e.0 ∷ ks) (keys_whole es)

  no_entry : (test : K → Bool) (es : List (K × V)) → lookup test es ≡ None → lookup_entry test es ≡ None
  no_entry test [] h = refl
  no_entry test (e ∷ es) h = by (test e.0) refl (no_entry test es)
    where
      by : (b : Bool) → test e.0 ≡ b → (lookup test es ≡ None → lookup_entry test es ≡ None) → lookup_entry test (e ∷ es) ≡ None
      by true k rest = let some = rw k at h in absurd (cc)
      by false k rest = rw k (rest (rw k at h))

module _ {K V : Type 0} {eq : K → K → Bool} (laws : IsEquivalence eq) (q k : K) (v : V) where
  -- a new entry, somewhere
  new_found : (es fs : List (K × V)) → IsPermutation ((k, v) ∷ es) fs → lookup (eq k) es ≡ None → IsDistinct eq (keys_of fs) → lookup_entry (eq q) fs ≡ found_more (eq q) (k, v) (lookup_entry (eq q) es)
  new_found es fs moves new distinct =
      sym (in_whole (eq q) fs)
      ∙ lookup_permutation laws (whole ((k, v) ∷ es)) (whole fs) (IsPermutation-map (λ e. (e.0, e)) ((k, v) ∷ es) fs moves) (subst (IsDistinct eq) (sym (keys_whole fs)) distinct) (eq q) (laws.congr q)
      ∙ in_whole (eq q) ((k, v) ∷ es)
      ∙ by (eq q k) refl
    where
      by : (b : Bool) → eq q k ≡ b → cond (eq q k) (Some (k, v)) (lookup_entry (eq q) es) ≡ found_more (eq q) (k, v) (lookup_entry (eq q) es)
      by true h =
          let none = no_entry (eq q) es (subst (λ (t : K → Bool). lookup t es ≡ None) (sym (λ i z. laws.congr q k z h i)) new) in
          rw (h, none, h) refl
      by false h = rw h (sym (other_stays (eq q) (k, v) h (lookup_entry (eq q) es)))

  -- an entry's new value
  set_found : (es : List (K × V)) → IsSome (lookup (eq k) es) → lookup_entry (eq q) (set_value (eq k) es v) ≡ found_more (eq q) (k, v) (lookup_entry (eq q) es)
  set_found [] there = absurd (cc)
  set_found (e ∷ es) there = by (eq k e.0) refl (set_found es)
    where
      here : eq k e.0 ≡ true → (b : Bool) → eq q k ≡ b → cond (eq q e.0) (Some (e.0, v)) (lookup_entry (eq q) es) ≡ found_more (eq q) (k, v) (lookup_entry (eq q) (e ∷ es))
      here h true j = let same : eq q e.0 ≡ true = laws.congr q k e.0 j ∙ h in rw (same, j) refl
      here h false j =
          let other : eq q e.0 ≡ false = laws.symm q e.0 ∙ sym (laws.congr k e.0 q h) ∙ laws.symm k q ∙ j in
          rw other (sym (other_stays (eq q) (k, v) j (lookup_entry (eq q) es)))

      there_is : (b : Bool) → eq q e.0 ≡ b → eq k e.0 ≡ false → (IsSome (lookup (eq k) es) → lookup_entry (eq q) (set_value (eq k) es v) ≡ found_more (eq q) (k, v) (lookup_entry (eq q) es)) → IsSome (lookup (eq k) es)
          → cond (eq q e.0) (Some e) (lookup_entry (eq q) (set_value (eq k) es v)) ≡ found_more (eq q) (k, v) (cond (eq q e.0) (Some e) (lookup_entry (eq q) es))
      there_is true j h rest some = let other : eq q k ≡ false = laws.congr q e.0 k j ∙ laws.symm e.0 k ∙ h in rw j (sym (other_stays (eq q) (k, v) other (Some e)))
      there_is false j h rest some = rw j (rest some)

      by : (b : Bool) → eq k e.0 ≡ b → (IsSome (lookup (eq k) es) → lookup_entry (eq q) (set_value (eq k) es v) ≡ found_more (eq q) (k, v) (lookup_entry (eq q) es))
          → lookup_entry (eq q) (set_value (eq k) (e ∷ es) v) ≡ found_more (eq q) (k, v) (lookup_entry (eq q) (e ∷ es))
      by true h rest = rw h (here h (eq q k) refl)
      by false h rest = rw h (there_is (eq q e.0) refl h rest (rw h at there))

-- a pair was inserted: the map finds what is found in the inserted pairs
pub found_put : {K V S : Type 0} {eq : K → K → Bool} → IsEquivalence eq → (m n : HashMap K V S) (k : K) (v : V) (old : Option V) → old ≡ get eq m k → PutsEntry eq m n k v old → IsUnique eq n → (ps : List (K × V))
    → ((q : K) → lookup_entry (eq q) m.entries ≡ found_in (eq q) ps) → (q : K) → lookup_entry (eq q) n.entries ≡ found_in (eq q) (ps ++ (k, v) ∷ [])
found_put {eq = eq} laws m n k v None is puts unique ps found q =
    new_found laws q k v m.entries n.entries puts (sym is) unique ∙ ap (found_more (eq q) (k, v)) (found q) ∙ sym (found_next (eq q) (k, v) ps)
found_put {eq = eq} laws m n k v (Some w) is puts unique ps found q =
    ap (lookup_entry (eq q)) puts ∙ set_found laws q k v m.entries (ap is_some (sym is)) ∙ ap (found_more (eq q) (k, v)) (found q) ∙ sym (found_next (eq q) (k, v) ps)
