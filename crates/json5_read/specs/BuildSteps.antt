-- What the whole value comes to, given the unfinished arrays and objects and the rest of the input.
-- Private.
use Rattle.std.specs.Prelude.{◌≡◌, ◌⊎◌, ℕ, ◌-◌, ◌<◌, ◌≤◌, Bool, true, false, List, [], ◌∷◌, length, Some, Result, IfOk, IfErr, String, string_bytes, slice_get}
use Rattle.std.specs.declared.alloc.Global.{Global}
use Rattle.std.specs.Str.{chars}
use Rattle.json5_grammar.specs.Faults.Fronts.{opening}
use Rattle.json5_grammar.specs.Model.Reading.{Read, got, and_then}
use Rattle.json5_grammar.specs.Model.ReadSteps.{trees_of, trees_after, read_pairs, pairs_after}
use Rattle.json5_grammar.specs.Language.Trees.{Trees, Members}
use Rattle.json5_types.specs.declared.error.Error.{Error}
use Rattle.json5_types.specs.declared.value.Value.{Value}
use Rattle.json5_tokens.specs.Cursor.{Cursor, IsOutOfMemory}
use Rattle.json5_types.specs.ValueMeanings.{Datum, Items, Fields, array, object, item, field, value_of}
use Rattle.json5_read.specs.declared.brackets.BracketKind.{BracketKind}
use Rattle.json5_read.specs.declared.unfinished.Next.{Next}
use Rattle.json5_read.specs.declared.unfinished.Next.TheVariants as next
use Rattle.json5_read.specs.declared.unfinished.Unfinished.{Unfinished}
use Rattle.json5_read.specs.declared.unfinished.Unfinished.TheVariants as unfinished
use Rattle.json5_read.specs.Brackets.{bracket_of}
use Rattle.json5_read.specs.TreeMeanings.{items_of, fields_of}
use Rattle.json5_read.specs.OwnedReads.{BlamesEach, KeepsValue, datum_at}
use Rattle.json5_read.specs.Nesting.{Within, WithinInner}
use Rattle.json5_read.specs.ModelSteps.{SameText, RefusesRead}

-- ---- what is left

-- these elements and then others; these members and then others
abbrev pub elements_before : List Value → Items → Items
elements_before [] xs = xs
elements_before (v ∷ vs) xs = item (value_of v) (elements_before vs xs)

abbrev pub members_before : List (String Global × Value) → Fields → Fields
members_before [] xs = xs
members_before (f ∷ fs) xs = field (chars (string_bytes f.0)) (value_of f.1) (members_before fs xs)

-- an array of these elements and of those that are read; an object
abbrev pub array_with : (Items → Items) → Read Trees → Read Datum
array_with before m = and_then m (λ ts z. got (array (before (items_of ts))) z)

abbrev pub object_with : (Fields → Fields) → Read Members → Read Datum
object_with before m = and_then m (λ ps z. got (object (before (fields_of ps))) z)

-- what is left of an array after these elements, of an object after these members
abbrev pub rest_of_array : List Value → Bool → ℕ → List ℕ → Read Datum
rest_of_array vs false d x = array_with (elements_before vs) (trees_of d x)
rest_of_array vs true d x = array_with (elements_before vs) (trees_after d x)

abbrev pub rest_of_object : List (String Global × Value) → Bool → ℕ → List ℕ → Read Datum
rest_of_object fs false d x = object_with (members_before fs) (read_pairs d x)
rest_of_object fs true d x = object_with (members_before fs) (pairs_after d x)

-- the same for a scanner, by how many brackets may be open at once in a value
abbrev pub array_at : List Value → Bool → Cursor → ℕ → Read Datum
array_at vs comma_due s d = rest_of_array vs comma_due d s.unread

abbrev pub object_at : List (String Global × Value) → Bool → Cursor → ℕ → Read Datum
object_at fs comma_due s d = rest_of_object fs comma_due d s.unread

-- ---- unfinished arrays and objects

abbrev pub start_of : Unfinished → ℕ
start_of (unfinished.Array start elements) = start
start_of (unfinished.Object start members key) = start

-- what a value makes of the array or object that it is in
abbrev pub value_in : Unfinished → ℕ → Datum → List ℕ → Read Datum
value_in (unfinished.Array start elements) d x y = array_with (λ xs. elements_before elements.items (item x xs)) (trees_after d y)
value_in (unfinished.Object start members key) d x y = object_with (λ xs. members_before members.items (field (chars (string_bytes key)) x xs)) (pairs_after d y)

abbrev pub value_in_at : Unfinished → Value → Cursor → ℕ → Read Datum
value_in_at f v s d = value_in f d (value_of v) s.unread

-- a value has ended, or one in brackets is in front
abbrev pub ended_or_next : ℕ → Next → Cursor → Read Datum
ended_or_next room (next.Ended v) now = got (value_of v) now.unread
ended_or_next room (next.Opens k) now = datum_at room now

-- an opening bracket of this kind is in front
abbrev pub AtBracket : BracketKind → Cursor → Type 0
AtBracket k now = slice_get now.unread 0 ≡ Some (opening (bracket_of k))

abbrev pub IsInFront : Next → Cursor → Type 0
IsInFront (next.Ended v) now = Unit {0}
IsInFront (next.Opens k) now = AtBracket k now

-- these are unfinished, and a value that has ended or is next makes w of the whole
abbrev pub Building : ℕ → Read Datum → List Unfinished → Next → Cursor → Type 0
Building room w fs n now = Within start_of value_in room w fs (ended_or_next (room - length fs) n now) now

-- the same within one more, which was opened before q and of which m is left
abbrev pub BuildingInside : ℕ → Read Datum → List Unfinished → ℕ → (ℕ → Read Datum) → List ℕ → Cursor → Type 0
BuildingInside room w fs start m q now = WithinInner start_of value_in room w fs start (m (room - length fs - 1)) q now

-- ---- turns

-- the value in front was taken if it is no collection
abbrev pub Begun : Cursor → Cursor → Next → Type 0
Begun old new (next.Ended v) = KeepsValue old new v
Begun old new (next.Opens k) = (new ≡ old) × AtBracket k old

pub record BeginsValue (old new : Cursor) (result : Result Next Error) : Type 0 where
  pub begun : IfOk result (Begun old new)
  pub refused : IfErr result (BlamesEach old.input (λ room. datum_at room old))
  pub same_text : SameText old new

-- a turn from the bracket in front on succeeds; or what is refused makes a fault of the whole, or memory ran out
pub record TurnsBuilding (room : ℕ) (k : BracketKind) (fs after : List Unfinished) (old new : Cursor) (result : Result Next Error) : Type 0 where
  pub goes : IfOk result (λ n. (w : Read Datum) → Building room w fs (next.Opens k) old → Building room w after n new)
  pub front : IfOk result (λ n. IsInFront n new)
  pub refused : IfErr result (λ e. IsOutOfMemory e ⊎ ((w : Read Datum) → Building room w fs (next.Opens k) old → RefusesRead old.input w e))
  pub same_text : SameText old new
  pub shorter : IfOk result (λ n. length new.unread < length old.unread)

-- the same within one more, of which m is left
pub record TurnsBuildingInside (m : ℕ → Read Datum) (start : ℕ) (comma_due : Bool) (fs after : List Unfinished) (old new : Cursor) (result : Result Next Error) : Type 0 where
  pub goes : IfOk result (λ n. (room : ℕ) (w : Read Datum) (q : List ℕ) → BuildingInside room w fs start m q old → Building room w after n new)
  pub front : IfOk result (λ n. IsInFront n new)
  pub refused : IfErr result (λ e. IsOutOfMemory e ⊎ ((room : ℕ) (w : Read Datum) (q : List ℕ) → BuildingInside room w fs start m q old → RefusesRead old.input w e))
  pub same_text : SameText old new
  pub shorter : IfOk result (λ n. comma_due ≡ true → length new.unread < length old.unread)
  pub no_longer : IfOk result (λ n. length new.unread ≤ length old.unread)

-- an array of these elements goes on, or an object of these members
abbrev pub ArrayGoesOn : ℕ → List Value → Bool → List Unfinished → List Unfinished → Cursor → Cursor → Result Next Error → Type 0
ArrayGoesOn start vs comma_due fs after old new result = TurnsBuildingInside (array_at vs comma_due old) start comma_due fs after old new result

abbrev pub ObjectGoesOn : ℕ → List (String Global × Value) → Bool → List Unfinished → List Unfinished → Cursor → Cursor → Result Next Error → Type 0
ObjectGoesOn start ms comma_due fs after old new result = TurnsBuildingInside (object_at ms comma_due old) start comma_due fs after old new result

-- the array or object f goes on after a value in it
abbrev pub GoesOnAfter : Unfinished → Value → List Unfinished → List Unfinished → Cursor → Cursor → Result Next Error → Type 0
GoesOnAfter f v fs after old new result = TurnsBuildingInside (value_in_at f v old) (start_of f) true fs after old new result
