-- What is left of an array or an object after the elements or members that were taken.
-- Private.
use Rattle.std.specs.Prelude.{◌≡◌, ℕ, ◌<◌, Bool, true, List, length, Option, Some, None, Result, IfOk, IfErr, String, string_bytes}
use Rattle.std.specs.declared.alloc.Global.{Global}
use Rattle.std.specs.Str.{chars}
use Rattle.json5_grammar.specs.Model.Reading.{Read, got, and_then}
use Rattle.json5_grammar.specs.Model.ReadSteps.{trees_after, pairs_after}
use Rattle.json5_types.specs.declared.error.Error.{Error}
use Rattle.json5_types.specs.declared.value.Value.{Value}
use Rattle.json5_tokens.specs.Cursor.{Cursor, Took}
use Rattle.json5_types.specs.ValueMeanings.{Datum, array, item, items_view, object, field, fields_view}
use Rattle.json5_read.specs.declared.brackets.BracketKind.{BracketKind}
use Rattle.json5_read.specs.BuildSteps.{AtBracket, elements_before, array_with, array_at, members_before, object_with, object_at}
use Rattle.json5_read.specs.OwnedReads.{BlamesEach, datum_at}
use Rattle.json5_read.specs.ModelSteps.{SameText}

-- some of the text was taken, and this is left of the reading
pub record Leaves (m n : ℕ → Read Datum) (old new : Cursor) : Type 0 where
  pub reads : (d : ℕ) → m d ≡ n d
  pub taken : List ℕ
  pub took : Took old taken new

-- the same, and if a comma was due, something was taken
abbrev pub LeavesLess : Bool → (ℕ → Read Datum) → (ℕ → Read Datum) → Cursor → Cursor → Type 0
LeavesLess comma_due m n old new = Leaves m n old new × (comma_due ≡ true → length new.unread < length old.unread)

-- ---- elements

-- what is left of an array of these elements whose next value is in front
abbrev pub element_left : List Value → Cursor → ℕ → Read Datum
element_left vs now d = and_then (datum_at d now) (λ x y. array_with (λ xs. elements_before vs (item x xs)) (trees_after d y))

-- what is left of an array after more elements: one that is a collection is in front, or the array was closed
abbrev pub LeavesElements : Bool → (ℕ → Read Datum) → List Value → Cursor → Cursor → Option BracketKind → Type 0
LeavesElements comma_due m vs old new (Some k) = LeavesLess comma_due m (element_left vs new) old new × AtBracket k new
LeavesElements comma_due m vs old new None = LeavesLess comma_due m (λ d. got (array (items_view vs)) new.unread) old new

-- the elements before became those after
pub record TakesElements (comma_due : Bool) (before after : List Value) (old new : Cursor) (result : Result (Option BracketKind) Error) : Type 0 where
  pub goes : IfOk result (LeavesElements comma_due (array_at before comma_due old) after old new)
  pub refused : IfErr result (BlamesEach old.input (array_at before comma_due old))
  pub same_text : SameText old new

-- ---- members

-- what is left of an object of these members when the value of the next, which has this key, is in front
abbrev pub member_left : List (String Global × Value) → List ℕ → Cursor → ℕ → Read Datum
member_left fs key now d = and_then (datum_at d now) (λ x z. object_with (λ xs. members_before fs (field key x xs)) (pairs_after d z))

-- what is left of an object after more members
abbrev pub LeavesMembers : Bool → (ℕ → Read Datum) → List (String Global × Value) → Cursor → Cursor → Option (String Global × BracketKind) → Type 0
LeavesMembers comma_due m fs old new (Some (key, k)) = LeavesLess comma_due m (member_left fs (chars (string_bytes key)) new) old new × AtBracket k new
LeavesMembers comma_due m fs old new None = LeavesLess comma_due m (λ d. got (object (fields_view fs)) new.unread) old new

-- the members before became those after
pub record TakesMembers (comma_due : Bool) (before after : List (String Global × Value)) (old new : Cursor) (result : Result (Option (String Global × BracketKind)) Error) : Type 0 where
  pub goes : IfOk result (LeavesMembers comma_due (object_at before comma_due old) after old new)
  pub refused : IfErr result (BlamesEach old.input (object_at before comma_due old))
  pub same_text : SameText old new
