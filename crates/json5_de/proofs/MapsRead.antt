-- What counts of a map, from the members that were gathered into it.
use Rattle.std.proofs.Common.{◌≡◌, Bool, List, map, refl, sym, ap, ◌∙◌, Option, Some, None}
use Rattle.std.specs.Prelude.{Result, Ok, Err, IfOk}
use Rattle.std.specs.declared.cmp.Ordering.{Ordering}
use Rattle.std.specs.Map.{lookup_entry}
use Rattle.json5_grammar.specs.Language.Trees.{Tree}
use Rattle.json5_types.specs.declared.error.Error.{Error}
use Rattle.json5_de.specs.State.{State}
use Rattle.json5_de.specs.DeserializeLaw.{TookValue, Gives, Completes}
use Rattle.json5_de.specs.Keys.{KeyConversion}
use Rattle.json5_de.specs.ConvertLists.{if_some}
use Rattle.json5_de.specs.Maps.{TellsKeys, Told, pair_content, found_in, in_insertion_order, in_key_order, pairs_of, map_of, GivesMembers}
use Rattle.json5_de.proofs.MapContents.{turn_content, order_content, found_content}

some_from : {A B : Type 0} (f : A → B) (o : Option A) (b : B) → if_some f o ≡ Some b → (a : A) × (o ≡ Some a) × (f a ≡ b)
some_from f None b h = absurd (cc)
some_from f (Some a) b h = (a, refl, cc)

module _ {C D A : Type 0} (keys : KeyConversion C) (values : Tree → Option D) (gathered : List (C × D) → A) (old : State) where
  -- what its pairs make is what counts of it
  pub gives_map : {K V M : Type 0} (key : K → C) (value : V → D) (Gathered : M → List (K × V) → Type 0) (content : M → A) → ((m : M) (ps : List (K × V)) → Gathered m ps → content m ≡ gathered (map (pair_content key value) ps))
      → (new : State) (result : Result M Error) → IfOk result (GivesMembers key value keys values Gathered old new) → IfOk result (λ m. Gives content (map_of keys values gathered) old new m)
  gives_map key value Gathered content made new (Ok m) (ps, is, gives) = let (t, took, are) = gives in (t, took, ap (if_some gathered) are ∙ ap Some (sym (made m ps is)))
  gives_map key value Gathered content made new (Err e) gives = tt

  -- if the object converts, its members do
  pub completes_map : {V : Type 0} (result : Result V Error) → Completes (pairs_of keys values) old result → Completes (map_of keys values gathered) old result
  completes_map (Ok m) complete = tt
  completes_map (Err e) complete = record { memory = λ t r c live reads shallow is. let (cs, are, made) = some_from gathered (pairs_of keys values t) c is in complete.memory t r cs live reads shallow are }

module _ {K V C D : Type 0} (key : K → C) (value : V → D) where
  pub ordered_content : (cmp : K → K → Ordering) (es ps : List (K × V)) → es ≡ in_key_order cmp ps
      → Path (Told key cmp (List (C × D))) (λ test tells. map (pair_content key value) es) (λ test tells. in_key_order test (map (pair_content key value) ps))
  ordered_content cmp es ps are = λ i test tells. (ap (map (pair_content key value)) are ∙ order_content key value cmp test tells ps) i

  pub indexed_content : (eq : K → K → Bool) (es ps : List (K × V)) → es ≡ in_insertion_order eq ps
      → Path (Told key eq (List (C × D))) (λ test tells. map (pair_content key value) es) (λ test tells. in_insertion_order test (map (pair_content key value) ps))
  indexed_content eq es ps are = λ i test tells. (ap (map (pair_content key value)) are ∙ turn_content key value eq test tells ps) i

  pub hashed_content : (eq : K → K → Bool) (es ps : List (K × V)) → ((q : K) → lookup_entry (eq q) es ≡ found_in (eq q) ps)
      → Path (Told key eq (K → Option (C × D))) (λ test tells q. if_some (pair_content key value) (lookup_entry (eq q) es)) (λ test tells q. found_in (test (key q)) (map (pair_content key value) ps))
  hashed_content eq es ps are = λ i test tells q. (ap (if_some (pair_content key value)) (are q) ∙ found_content key value (eq q) (test (key q)) (λ x. tells q x) ps) i

-- what it holds, by a test that tells its keys apart
pub holds : {K C D R M A : Type 0} (key : K → C) (compare : K → K → R) (keys : KeyConversion C) (values : Tree → Option D) (content : M → Told key compare A) (gathered : (C → C → R) → List (C × D) → A)
    → (test : C → C → R) → (tells : TellsKeys key compare test) → (old new : State) (m : M) → Gives content (map_of keys values (λ ps test tells. gathered test ps)) old new m
    → (t : Tree) × (ps : List (C × D)) × TookValue old t new × (pairs_of keys values t ≡ Some ps) × (content m test tells ≡ gathered test ps)
holds key compare keys values content gathered test tells old new m (t, took, is) =
    let (ps, are, made) = some_from (λ ps test tells. gathered test ps) (pairs_of keys values t) (content m) is in (t, ps, took, are, λ i. sym made i test tells)
