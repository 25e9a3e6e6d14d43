-- What a map is read to. Of members with equal keys the first gives the key and its place in the order, and the last gives the value.
-- A promise rests on this.
use Rattle.std.specs.Prelude.{◌≡◌, Bool, List, [], ◌∷◌, map, Option, Some, None, if◌then◌else◌, fold}
use Rattle.std.specs.declared.cmp.Ordering.{Ordering}
use Rattle.std.specs.BTreeMap as tree
use Rattle.std.specs.HashMap.{HashMap}
use Rattle.std.specs.Map.{lookup_entry}
use Rattle.indexmap.specs.IndexMap.{IndexMap, insert_all}
use Rattle.json5_grammar.specs.Language.Trees.{Tree}
use Rattle.json5_grammar.specs.Model.Collections.{pair_contents, object_of}
use Rattle.json5_de.specs.ConvertLists.{if_some}
use Rattle.json5_de.specs.State.{State}
use Rattle.json5_de.specs.DeserializeLaw.{TookValue, Gives}
use Rattle.json5_de.specs.Keys.{KeyConversion}

-- ---- equal keys, by their contents

-- the test compares contents as the type compares keys
abbrev pub TellsKeys : {K C A : Type 0} → (K → C) → (K → K → A) → (C → C → A) → Type 0
TellsKeys {K} content compare test = (x y : K) → test (content x) (content y) ≡ compare x y

-- an A for each test that compares contents as the type compares keys
abbrev pub Told : {K C R : Type 0} → (K → C) → (K → K → R) → Type 0 → Type 0
Told {K} {C} {R} content compare A = (test : C → C → R) → TellsKeys content compare test → A

-- what counts of a member: of its key, and of its value
abbrev pub pair_content : {K V C D : Type 0} → (K → C) → (V → D) → K × V → C × D
pair_content key value p = (key p.0, value p.1)

-- ---- members by their keys

-- the value of the last member whose key passes, or v
abbrev pub last_value : {C D : Type 0} → (C → Bool) → D → List (C × D) → D
last_value test v [] = v
last_value test v (p ∷ ps) = last_value test (if test p.0 then p.1 else v) ps

-- the first key that passes, with the value of the last member whose key does
abbrev pub found_in : {C D : Type 0} → (C → Bool) → List (C × D) → Option (C × D)
found_in test [] = None
found_in test (p ∷ ps) = if test p.0 then Some (p.0, last_value test p.1 ps) else found_in test ps

-- the members inserted in turn into a map that keeps the order in which keys first came
abbrev pub in_insertion_order : {C D : Type 0} → (C → C → Bool) → List (C × D) → List (C × D)
in_insertion_order same ps = insert_all same [] ps

-- the members inserted in turn into a map that keeps the keys' order
abbrev pub in_key_order : {C D : Type 0} → (C → C → Ordering) → List (C × D) → List (C × D)
in_key_order compare ps = fold (λ done p. tree.insert_entry compare done p.0 p.1) [] ps

-- ---- maps

-- what counts of an object's members, in their order
abbrev pub pairs_of : {C D : Type 0} → KeyConversion C → (Tree → Option D) → Tree → Option (List (C × D))
pairs_of keys values = object_of (pair_contents keys values)

-- what counts of a map that is made of the members
abbrev pub map_of : {C D A : Type 0} → KeyConversion C → (Tree → Option D) → (List (C × D) → A) → Tree → Option A
map_of keys values gathered t = if_some gathered (pairs_of keys values t)

-- an object was read, and m is what its members make
abbrev pub GivesMembers : {K V C D M : Type 0} → (K → C) → (V → D) → KeyConversion C → (Tree → Option D) → (M → List (K × V) → Type 0) → State → State → M → Type 0
GivesMembers {K} {V} key value keys values Gathered old new m = (ps : List (K × V)) × Gathered m ps × Gives (map (pair_content key value)) (pairs_of keys values) old new ps

module _ {K C D R M A : Type 0} (key : K → C) (compare : K → K → R) (keys : KeyConversion C) (values : Tree → Option D) where
  -- if a test tells keys apart by what counts of them, a map that was read holds what the object's members make by that test
  abbrev pub Holds : (M → Told key compare A) → (Tree → Option (Told key compare A)) → (M → A) → ((C → C → R) → List (C × D) → A) → Type 0
  Holds content convert entries gathered =
      (test : C → C → R) → TellsKeys key compare test → (old new : State) (m : M) → Gives content convert old new m → (t : Tree) × (ps : List (C × D)) × TookValue old t new × (pairs_of keys values t ≡ Some ps) × (entries m ≡ gathered test ps)

module _ {K V C D : Type 0} (key : K → C) (value : V → D) where
  -- by the keys' order
  abbrev pub HoldsInKeyOrder : (cmp : K → K → Ordering) → KeyConversion C → (Tree → Option D) → (tree.BTreeMap K V → Told key cmp (List (C × D))) → (Tree → Option (Told key cmp (List (C × D)))) → Type 0
  HoldsInKeyOrder cmp keys values content convert = Holds key cmp keys values content convert (λ m. map (pair_content key value) m.entries) (λ test ps. in_key_order test ps)

  -- by the order in which keys first came
  abbrev pub HoldsAsInserted : {S : Type 0} (eq : K → K → Bool) → KeyConversion C → (Tree → Option D) → (IndexMap K V S → Told key eq (List (C × D))) → (Tree → Option (Told key eq (List (C × D)))) → Type 0
  HoldsAsInserted eq keys values content convert = Holds key eq keys values content convert (λ m. map (pair_content key value) m.entries) (λ test ps. in_insertion_order test ps)

  -- in no order: what is found at each key
  abbrev pub HoldsAtKeys : {S : Type 0} (eq : K → K → Bool) → KeyConversion C → (Tree → Option D) → (HashMap K V S → Told key eq (K → Option (C × D))) → (Tree → Option (Told key eq (K → Option (C × D)))) → Type 0
  HoldsAtKeys eq keys values content convert =
      Holds key eq keys values content convert (λ m q. if_some (pair_content key value) (lookup_entry (eq q) m.entries)) (λ test ps q. found_in (test (key q)) ps)
