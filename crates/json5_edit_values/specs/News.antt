-- What a patch puts into a text.
-- Private.
use Rattle.std.specs.declared.alloc.Global.{Global}
use Rattle.std.specs.Prelude.{⊤, ◌≡◌, ◌⊎◌, List, [], ℕ, Bool, true, false, is_some, length, String, Result, Ok, Err}
use Rattle.std.specs.Str.{chars}
use lib.Chars.{codes}
use Rattle.json5_grammar.specs.Language.Trees.{Tree, null, object, no_member}
use Rattle.json5_grammar.specs.Language.Values.{Val}
use Rattle.json5_types.specs.ValueLookups.{fields_in}
use Rattle.json5_types.specs.ValueMeanings.{fields_view, value_of}
use Rattle.json5_types.specs.declared.value.Value.{Value}
use Rattle.json5_read.specs.TreeMeanings.{datum_of}
use Rattle.json5_read.specs.declared.brackets.BracketKind.TheVariants as kind
use Rattle.json5_edit.specs.declared.paths.Step.{Step}
use Rattle.json5_edit.specs.Changes.{IsRemoved}
use Rattle.json5_edit.specs.Entries.{entries}
use Rattle.json5_edit.specs.Places.{LeadsNowhere}
use Rattle.json5_edit.specs.Refusals.{Reaches}
use Rattle.json5_edit.specs.Comparing.{IsWithLast}
use Rattle.json5_edit_values.specs.Locations.{Becomes, ChangesAt}
use Rattle.json5_edit_values.specs.Merges.{Merges, MergesEach, MergesMember}
use Rattle.json5_edit_values.specs.Patches.{AddsTo, IsOf, Joins, ReplacesAt}
use Rattle.json5_edit.specs.declared.faults.EditError.{EditError}
use Rattle.json5_edit_values.specs.declared.patch.faults.Trouble.{Trouble}
use Rattle.json5_edit_values.specs.declared.patch.faults.Trouble.TheVariants as trouble
use Rattle.json5_edit_values.specs.declared.patch.new_values.New.{New}
use Rattle.json5_edit_values.specs.declared.patch.new_values.New.TheVariants as new

-- v is its tree
abbrev pub Brings : New → Tree → Type 0
Brings (new.Value value) v = IsOf value.now v
Brings (new.Text part) v = Val (chars part.now) v

-- it comes to the value to which the steps lead
abbrev pub BringsAt : New → (Tree → Tree → Tree → Type 0) → List Step → Tree → Tree → Type 0
BringsAt n How steps t u = (v : Tree) × Brings n v × ChangesAt (How v) steps t u

abbrev pub AddsNew : New → List (String Global) → Tree → Tree → Type 0
AddsNew n tokens t u = (v : Tree) × Brings n v × AddsTo tokens v t u

-- a member gets it or comes with it, or an element comes at the end for `-`
pub data AddsKeyed (n : New) (steps outer : List Step) (key : List ℕ) (t u : Tree) : Type 0 where
  keyed_set : BringsAt n Becomes steps t u → AddsKeyed n steps outer key t u
  keyed_joined : BringsAt n (Joins key) outer t u → AddsKeyed n steps outer key t u
  keyed_last : key ≡ codes "-" → BringsAt n (IsWithLast kind.Array []) outer t u → AddsKeyed n steps outer key t u

abbrev pub ReplacesWith : New → List (String Global) → Tree → Tree → Type 0
ReplacesWith n tokens t u = (v : Tree) × Brings n v × ReplacesAt tokens v t u

-- the steps lead to a collection of so many entries
abbrev pub HasCount : List ℕ → List Step → ℕ → Type 0
HasCount text steps n = Reaches (λ t. length (entries t) ≡ n) text steps

-- the steps lead somewhere, or nowhere
abbrev pub LeadsSo : Bool → List ℕ → List Step → Type 0
LeadsSo true text steps = Reaches (λ t. ⊤) text steps
LeadsSo false text steps = LeadsNowhere text steps

-- the steps lead to an object, or to another value
abbrev pub LeadsToObject : Bool → List ℕ → List Step → Type 0
LeadsToObject b text steps = Reaches (λ t. is_some (fields_in (datum_of t)) ≡ b) text steps

-- the patch is merged into the value to which the steps lead
abbrev pub MergesInto : Value → List Step → Tree → Tree → Type 0
MergesInto patch steps = ChangesAt (Merges (value_of patch)) steps

abbrev pub MergesFieldsInto : List (String Global × Value) → List Step → Tree → Tree → Type 0
MergesFieldsInto fields steps = ChangesAt (MergesEach (fields_view fields)) steps

abbrev pub MergesFieldInto : List ℕ → Value → List Step → Tree → Tree → Type 0
MergesFieldInto key value steps = ChangesAt (MergesMember (Merges (value_of value)) key (value_of value)) steps

-- what the patch makes of null is a member more
abbrev pub JoinsMerged : List ℕ → Value → List Step → Tree → Tree → Type 0
JoinsMerged key patch steps t u = (v : Tree) × Merges (value_of patch) null v × ChangesAt (Joins key v) steps t u

-- the value is what the members make of an empty object
abbrev pub IsMergedOf : List (String Global × Value) → Value → Type 0
IsMergedOf fields v = (w : Tree) × MergesEach (fields_view fields) (object no_member) w × IsOf v w

-- without the entry to which the path leads, or as it was where it leads nowhere
abbrev pub IsTakenOut : List ℕ → List Step → List ℕ → Type 0
IsTakenOut text path made = IsRemoved text path made ⊎ (LeadsNowhere text path × (made ≡ text))

-- what an edit returns, as an operation's own
abbrev pub edited : Result (String Global) EditError → Result (String Global) Trouble
edited (Ok made) = Ok made
edited (Err e) = Err (trouble.Edit e)
