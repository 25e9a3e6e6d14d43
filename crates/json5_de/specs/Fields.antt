-- Structs: the fields of an object by their names, in any order, each at most once.
-- A promise rests on this.
use Rattle.std.specs.Prelude.{◌≡◌, ◌⊎◌, ◌<◌, length, false, ℕ, Bool, if◌then◌else◌, true, is_some, List, Option, Some, None, Result, Ok, Err, OnOk, OnErr, IfErr}
use Rattle.std.specs.Str.{bytes_eq, encode_utf8_all}
use Rattle.json5_grammar.specs.Language.Trees.{Tree, Trees, Members, no_more, more, no_member, member}
use Rattle.json5_grammar.specs.Model.Collections.{joint}
use Rattle.json5_types.specs.declared.error.Error.{Error}
use Rattle.json5_types.specs.Errors.{custom, kind_of}
use Rattle.json5_tokens.specs.Cursor.{IsOutOfMemory}
use Rattle.json5_de.specs.State.{State, FailsIfErr}
use Rattle.json5_de.specs.ConvertLists.{if_some}
use Rattle.json5_de.specs.DeserializeLaw.{Unprompted}
use Rattle.json5_de.specs.Refinement.{if_more}
use Rattle.json5_de.specs.Arrays.{AccessState, IsAtBracket, AnswersFailedAtBracket}
use Rattle.json5_de.specs.Objects.{MapAccessState, KeepsPending, MembersLeft, ReadsAMember, LeavesObjectMembers}
use Rattle.json5_de.specs.ObjectFaults.{ValueRefusedAtBrace}

-- ---- what a struct takes of an object

-- the values of the members with this name, in their order; a name is the bytes of its text
abbrev pub values_named : List ℕ → Members → Trees
values_named name no_member = no_more
values_named name (member u escape_free t ps) = if bytes_eq (encode_utf8_all u) name then more t (values_named name ps) else values_named name ps

-- at most one value, which converts
abbrev pub at_most_one : {C : Type 0} → (Tree → Option C) → Trees → Option (Option C)
at_most_one f no_more = Some None
at_most_one f (more t no_more) = if_some Some (f t)
at_most_one f (more t (more u us)) = None

-- a field that may be missing
abbrev pub optional : {C : Type 0} → List ℕ → (Tree → Option C) → Members → Option (Option C)
optional name f ps = at_most_one f (values_named name ps)

-- a field that has to be there
abbrev pub required : {C : Type 0} → List ℕ → (Tree → Option C) → Members → Option C
required name f ps = if_more (λ o. o) (optional name f ps)

abbrev pub or_value : {C : Type 0} → C → Option C → C
or_value c None = c
or_value c (Some d) = d

-- a field whose content is c if it is missing
abbrev pub with_default : {C : Type 0} → C → List ℕ → (Tree → Option C) → Members → Option C
with_default c name f ps = if_some (or_value c) (optional name f ps)

-- a field, and others
abbrev pub and_field : {A B : Type 0} → (Members → Option A) → (Members → Option B) → Members → Option (A × B)
and_field f g ps = joint (f ps) (g ps)

-- ---- what the calls for a field mean

-- a fault with a custom message at the opening bracket, or memory ran out
pub record IsOwnAtBracket (s : AccessState) (e : Error) : Type 0 where
  pub kind : ((text : List ℕ) × (kind_of e ≡ custom text)) ⊎ IsOutOfMemory e
  pub there : IsAtBracket s e

-- the value of the key that was read fills the field, which had no value
abbrev pub FillsField : {V C : Type 0} → (V → C) → (Tree → Option C) → MapAccessState → MapAccessState → Option V → Option V → Type 0
FillsField {V} content convert old new field next = (v : V) × (field ≡ None) × (next ≡ Some v) × ReadsAMember content convert old new v

-- if the first member's value converts, it fills the field, unless memory runs out, and the other members are left
abbrev pub LeavesFilled : {V C : Type 0} → (V → C) → (Tree → Option C) → Tree → Members → List ℕ → MapAccessState → Option V → Result (Unit {0}) Error → Type 0
LeavesFilled {V} content convert t ps r new next (Ok done) = (v : V) × (next ≡ Some v) × LeavesObjectMembers content convert t ps r new (Ok v)
LeavesFilled {V} content convert t ps r new next (Err e) = LeavesObjectMembers {V = V} content convert t ps r new (Err e)

-- a value that is refused, as its type refuses it
abbrev pub RefusesHere : {V : Type 0} → (State → Error → State → Type 0) → MapAccessState → Result V Error → Type 0
RefusesHere refuses old result = IfErr result (λ e. old.at.reader.failed ≡ false → ValueRefusedAtBrace refuses old e)

-- why a field isn't filled: its value is refused, or the field was filled before
pub data FieldFault {V : Type 0} (refuses : State → Error → State → Type 0) (old : MapAccessState) (field : Option V) (e : Error) : Type 0 where
  in_field : field ≡ None → ValueRefusedAtBrace refuses old e → FieldFault refuses old field e
  twice : is_some field ≡ true → IsOwnAtBracket old.at e → FieldFault refuses old field e

-- what a call for a field means
pub record FieldRead {V C : Type 0} (content : V → C) (convert : Tree → Option C) (refuses : State → Error → State → Type 0) (old new : MapAccessState) (field next : Option V) (result : Result (Unit {0}) Error) : Type 0 where
  pub read : OnOk result (FillsField content convert old new field next)
  pub left : field ≡ None → (u : List ℕ) (escape_free : Bool) (t : Tree) (ps : Members) (r : List ℕ) → MembersLeft (member u escape_free t ps) r old → LeavesFilled content convert t ps r new next result
  pub live : OnOk result (new.at.reader.failed ≡ false)
  pub shorter : OnOk result (length new.at.reader.unread < length old.at.reader.unread)
  pub cause : IfErr result (λ e. old.at.reader.failed ≡ false → FieldFault refuses old field e)
  pub unprompted : Unprompted old.at.reader result
  pub failed : FailsIfErr new.at.reader result
  pub before : AnswersFailedAtBracket old.at result
  pub kept : OnErr result (next ≡ field)

-- what a call for a field that has to be there means
pub record FieldRequired {V : Type 0} (old new : MapAccessState) (field : Option V) (result : Result V Error) : Type 0 where
  pub live : OnOk result (old.at.reader.failed ≡ false)
  pub same : OnOk result (new ≡ old)
  pub missing : IfErr result (λ e. old.at.reader.failed ≡ false → (field ≡ None) × IsOwnAtBracket old.at e)
  pub pending : KeepsPending old new
  pub unprompted : Unprompted old.at.reader result
  pub failed : FailsIfErr new.at.reader result
  pub before : AnswersFailedAtBracket old.at result
