-- What is put into a map, one member after another, and what counts of it.
use Rattle.std.proofs.Common.{◌≡◌, Bool, true, false, List, [], ◌∷◌, map, refl, sym, ap, ◌∙◌, Some}
use Rattle.std.specs.Prelude.{if◌then◌else◌, fold}
use Rattle.std.specs.declared.cmp.Ordering.{Ordering}
use Rattle.std.specs.declared.cmp.Ordering.TheVariants.{Less, Equal, Greater}
use Rattle.std.specs.BTreeMap as tree
use Rattle.indexmap.specs.IndexMap.{insert_entry, insert_all}
use Rattle.json5_de.specs.ConvertLists.{if_some}
use Rattle.json5_de.specs.Maps.{TellsKeys, pair_content, last_value, found_in, in_insertion_order, in_key_order}

module _ {K V C D : Type 0} (key : K → C) (value : V → D) where
  -- what counts of a map is made of what counts of each member
  insert_content : (eq : K → K → Bool) (same : C → C → Bool) → TellsKeys key eq same → (es : List (K × V)) (p : K × V)
      → map (pair_content key value) (insert_entry eq es p.0 p.1) ≡ insert_entry same (map (pair_content key value) es) (key p.0) (value p.1)
  insert_content eq same tells [] p = refl
  insert_content eq same tells (e ∷ es) p = by (eq p.0 e.0) refl (insert_content eq same tells es p)
    where
      by : (b : Bool) → eq p.0 e.0 ≡ b → map (pair_content key value) (insert_entry eq es p.0 p.1) ≡ insert_entry same (map (pair_content key value) es) (key p.0) (value p.1)
          → map (pair_content key value) (insert_entry eq (e ∷ es) p.0 p.1) ≡ insert_entry same (map (pair_content key value) (e ∷ es)) (key p.0) (value p.1)
      by true h k = rw (tells p.0 e.0, h) refl
      by false h k = rw (tells p.0 e.0, h) (ap (λ l. pair_content key value e ∷ l) k)

  all_contents : (eq : K → K → Bool) (same : C → C → Bool) → TellsKeys key eq same → (es ps : List (K × V))
      → map (pair_content key value) (insert_all eq es ps) ≡ insert_all same (map (pair_content key value) es) (map (pair_content key value) ps)
  all_contents eq same tells es [] = refl
  all_contents eq same tells es (p ∷ ps) =
      all_contents eq same tells (insert_entry eq es p.0 p.1) ps ∙ ap (λ l. insert_all same l (map (pair_content key value) ps)) (insert_content eq same tells es p)

  pub turn_content : (eq : K → K → Bool) (same : C → C → Bool) → TellsKeys key eq same → (ps : List (K × V)) → map (pair_content key value) (in_insertion_order eq ps) ≡ in_insertion_order same (map (pair_content key value) ps)
  turn_content eq same tells ps = all_contents eq same tells [] ps

  insert_content_ordered : (cmp : K → K → Ordering) (compare : C → C → Ordering) → TellsKeys key cmp compare → (es : List (K × V)) (p : K × V)
      → map (pair_content key value) (tree.insert_entry cmp es p.0 p.1) ≡ tree.insert_entry compare (map (pair_content key value) es) (key p.0) (value p.1)
  insert_content_ordered cmp compare tells [] p = refl
  insert_content_ordered cmp compare tells (e ∷ es) p = by (cmp p.0 e.0) refl (insert_content_ordered cmp compare tells es p)
    where
      by : (r : Ordering) → cmp p.0 e.0 ≡ r
          → map (pair_content key value) (tree.insert_entry cmp es p.0 p.1) ≡ tree.insert_entry compare (map (pair_content key value) es) (key p.0) (value p.1)
          → map (pair_content key value) (tree.insert_entry cmp (e ∷ es) p.0 p.1) ≡ tree.insert_entry compare (map (pair_content key value) (e ∷ es)) (key p.0) (value p.1)
      by Less h k = rw (tells p.0 e.0, h) refl
      by Equal h k = rw (tells p.0 e.0, h) refl
      by Greater h k = rw (tells p.0 e.0, h) (ap (λ l. pair_content key value e ∷ l) k)

  all_contents_ordered : (cmp : K → K → Ordering) (compare : C → C → Ordering) → TellsKeys key cmp compare → (es ps : List (K × V))
      → map (pair_content key value) (fold (λ done p. tree.insert_entry cmp done p.0 p.1) es ps) ≡ fold (λ done p. tree.insert_entry compare done p.0 p.1) (map (pair_content key value) es) (map (pair_content key value) ps)
  all_contents_ordered cmp compare tells es [] = refl
  all_contents_ordered cmp compare tells es (p ∷ ps) =
      all_contents_ordered cmp compare tells (tree.insert_entry cmp es p.0 p.1) ps
      ∙ ap (λ l. fold (λ done e. tree.insert_entry compare done e.0 e.1) l (map (pair_content key value) ps)) (insert_content_ordered cmp compare tells es p)

  pub order_content : (cmp : K → K → Ordering) (compare : C → C → Ordering) → TellsKeys key cmp compare → (ps : List (K × V)) → map (pair_content key value) (in_key_order cmp ps) ≡ in_key_order compare (map (pair_content key value) ps)
  order_content cmp compare tells ps = all_contents_ordered cmp compare tells [] ps

  either : (b : Bool) (v w : V) → value (if b then v else w) ≡ (if b then value v else value w)
  either true v w = refl
  either false v w = refl

  last_content : (test : K → Bool) (passes : C → Bool) → ((x : K) → passes (key x) ≡ test x) → (v : V) (ps : List (K × V)) → value (last_value test v ps) ≡ last_value passes (value v) (map (pair_content key value) ps)
  last_content test passes tells v [] = refl
  last_content test passes tells v (p ∷ ps) =
      last_content test passes tells (if test p.0 then p.1 else v) ps
      ∙ ap (λ d. last_value passes d (map (pair_content key value) ps)) (either (test p.0) p.1 v ∙ ap (λ b. if b then value p.1 else value v) (sym (tells p.0)))

  pub found_content : (test : K → Bool) (passes : C → Bool) → ((x : K) → passes (key x) ≡ test x) → (ps : List (K × V)) → if_some (pair_content key value) (found_in test ps) ≡ found_in passes (map (pair_content key value) ps)
  found_content test passes tells [] = refl
  found_content test passes tells (p ∷ ps) = by (test p.0) refl (found_content test passes tells ps)
    where
      by : (b : Bool) → test p.0 ≡ b → if_some (pair_content key value) (found_in test ps) ≡ found_in passes (map (pair_content key value) ps)
          → if_some (pair_content key value) (found_in test (p ∷ ps)) ≡ found_in passes (map (pair_content key value) (p ∷ ps))
      by true h k = rw (tells p.0, h) (ap (λ d. Some (key p.0, d)) (last_content test passes tells p.1 ps))
      by false h k = rw (tells p.0, h) k
