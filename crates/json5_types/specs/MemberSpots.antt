-- Where the members of an object go that is merged into another. Private clauses and proofs alone cite it.
-- Private.
use Rattle.std.specs.Prelude.{◌≡◌, ℕ, suc, Bool, true, false, not, nat_eq, List, [], ◌∷◌, Option, None, Some, is_some, String, ⊤}
use Rattle.std.specs.Borrow.{Bor}
use Rattle.std.specs.BTreeMap.{BTreeMap, get_by}
use Rattle.std.specs.Ordering.{nat_cmp}
use Rattle.std.specs.declared.alloc.Global.{Global}
use Rattle.std.specs.Str.{chars, IsUtf8}
use Rattle.std.specs.Cmp.Lexicographic.{pointwise, slice_cmp}
use Rattle.json5_types.specs.declared.value.Value.{Value}
use Rattle.json5_types.specs.declared.value_merge.Spot.{Spot}
use Rattle.json5_types.specs.declared.value_merge.Spot.TheVariants as spot
use Rattle.json5_types.specs.ValueChanges.{merged, put_named, or_null}
use Rattle.json5_types.specs.ValueLookups.{last_named}
use Rattle.json5_types.specs.ValueMeanings.{Datum, Fields, no_field, field, fields_view}

-- ---- keys and their places

-- the keys of members, in their order
abbrev pub keys_of : Fields → List (List ℕ)
keys_of no_field = []
keys_of (field u x fs) = u ∷ keys_of fs

abbrev pub keys_in : List (String Global × Value) → List (List ℕ)
keys_in fs = keys_of (fields_view fs)

abbrev pub later_or_here : Option ℕ → Bool → Option ℕ
later_or_here (Some i) here = Some (suc i)
later_or_here None true = Some 0
later_or_here None false = None

-- how many keys come before the last that is this one
abbrev pub last_index : List ℕ → List (List ℕ) → Option ℕ
last_index key [] = None
last_index key (k ∷ ks) = later_or_here (last_index key ks) (pointwise nat_eq k key)

-- the place that the map has for a key
abbrev pub place_of : BTreeMap (Bor (List ℕ)) ℕ → List ℕ → Option ℕ
place_of m key = get_by (λ k. slice_cmp nat_cmp key k.now) m

-- the map has for each key the place of the last of these members with it
abbrev pub FindsPlaces : List (String Global × Value) → BTreeMap (Bor (List ℕ)) ℕ → Type 0
FindsPlaces fs m = (q : Bor (List ℕ)) → IsUtf8 q.now → place_of m q.now ≡ last_index (chars q.now) (keys_in fs)

-- ---- spots

-- nowhere for a member that a later one replaces, else to the place of its key or to the end
abbrev pub spot_unless : Bool → Option ℕ → Spot
spot_unless true known = spot.Passed
spot_unless false (Some place) = spot.Known place
spot_unless false None = spot.New

abbrev pub is_there : ℕ → Option ℕ → Bool
is_there i None = false
is_there i (Some j) = nat_eq i j

-- where a member goes that is the i-th, and of which the last with its key is `last` among its own and `known` among ours
abbrev pub spot_at : ℕ → Option ℕ → Option ℕ → Spot
spot_at i last known = spot_unless (not (is_there i last)) known

-- where members with these keys go, one after another
abbrev pub spots_of : List (List ℕ) → List (List ℕ) → List Spot
spots_of [] ours = []
spots_of (key ∷ later) ours = spot_unless (is_some (last_index key later)) (last_index key ours) ∷ spots_of later ours

-- it is a spot for the key among these members
abbrev pub IsSpot : List ℕ → Fields → Spot → Type 0
IsSpot key fs spot.Passed = ⊤
IsSpot key fs (spot.Known i) = last_index key (keys_of fs) ≡ Some i
IsSpot key fs spot.New = last_index key (keys_of fs) ≡ None

abbrev pub key_merged : List ℕ → Datum → Fields → Fields
key_merged key y fs = put_named key (merged (or_null (last_named key fs)) y) fs

-- the members with one merged at its spot
abbrev pub spot_merged : Spot → List ℕ → Datum → Fields → Fields
spot_merged spot.Passed key y fs = fs
spot_merged (spot.Known i) key y fs = key_merged key y fs
spot_merged spot.New key y fs = key_merged key y fs

-- merged at its spot, if it is one
abbrev pub MergesAt : Spot → List ℕ → Datum → List (String Global × Value) → List (String Global × Value) → Type 0
MergesAt s key y old new = IsSpot key (fields_view old) s → fields_view new ≡ spot_merged s key y (fields_view old)
