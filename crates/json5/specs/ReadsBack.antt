-- What reading what was written gives.
-- A promise rests on this.
use Rattle.std.specs.Prelude.{◌≡◌, ℕ, Bool, List, map, Option, Some}
use Rattle.std.specs.List.{All, IsDistinct}
use Rattle.std.specs.List.Sorted.{IsStrictlySortedBy}
use Rattle.std.specs.Map.{keys_of}
use Rattle.std.specs.declared.cmp.Ordering.{Ordering}
use Rattle.json5_grammar.specs.Language.Trees.{Tree}
use Rattle.json5_grammar.specs.Model.Collections.{contents, array_of}
use Rattle.json5_de.specs.Keys.{KeyConversion}
use Rattle.json5_de.specs.Maps.{TellsKeys, pair_content, pairs_of, in_key_order, in_insertion_order}
use Rattle.json5_ser.specs.WrittenTrees.{Written, WrittenKey, named, array, object, elements_of, fields_of}
use Rattle.json5_ser.specs.EscapeFreeMarks.{marks, is_escape_free_key}

-- the tree that is written of the value converts, once it is read, to the value's content
abbrev pub ReadsBack : {V C : Type 0} → (V → Written) → (Tree → Option C) → (V → C) → V → Type 0
ReadsBack tree convert content v = convert (marks (tree v)) ≡ Some (content v)

-- a list of values is written, and read
abbrev pub list_tree : {V : Type 0} → (V → Written) → List V → Written
list_tree tree vs = array (elements_of tree vs)

abbrev pub list_of : {C : Type 0} → (Tree → Option C) → Tree → Option (List C)
list_of f = array_of (contents f)

-- what is written of the key is a text that converts, once it is read, to the key's content
abbrev pub KeyReadsBack : {K C : Type 0} → (K → WrittenKey) → KeyConversion C → (K → C) → K → Type 0
KeyReadsBack key convert content k = (u : List ℕ) × (key k ≡ named u) × (convert u (is_escape_free_key u) ≡ Some (content k))

-- a member's key and its value read back
pub record MemberReadsBack {K V C D : Type 0} (key : K → WrittenKey) (keys : KeyConversion C) (as_key : K → C) (tree : V → Written) (values : Tree → Option D) (as_value : V → D) (e : K × V) : Type 0 where
  pub key_back : KeyReadsBack key keys as_key e.0
  pub value_back : ReadsBack tree values as_value e.1

-- the members of an object read back, in their order, if each key and each value does
abbrev pub MembersReadBack : {K V C D : Type 0} → (K → WrittenKey) → KeyConversion C → (K → C) → (V → Written) → (Tree → Option D) → (V → D) → Type 0
MembersReadBack {K} {V} key keys as_key tree values as_value =
    (es : List (K × V)) → All (MemberReadsBack key keys as_key tree values as_value) es → pairs_of keys values (marks (object (fields_of key tree es))) ≡ Some (map (pair_content as_key as_value) es)

-- members whose keys ascend stay as they are if they are inserted in turn into a map that keeps the keys' order
abbrev pub OrderStays : {K V C D : Type 0} → (K → C) → (V → D) → (K → K → Ordering) → Type 0
OrderStays {K} {V} {C} key value cmp =
    (es : List (K × V)) (test : C → C → Ordering) → IsStrictlySortedBy cmp (keys_of es) → TellsKeys key cmp test → in_key_order test (map (pair_content key value) es) ≡ map (pair_content key value) es

-- the same of members whose keys differ, and of a map that keeps the order in which they came
abbrev pub TurnStays : {K V C D : Type 0} → (K → C) → (V → D) → (K → K → Bool) → Type 0
TurnStays {K} {V} {C} key value eq =
    (es : List (K × V)) (test : C → C → Bool) → IsDistinct eq (keys_of es) → TellsKeys key eq test → in_insertion_order test (map (pair_content key value) es) ≡ map (pair_content key value) es
