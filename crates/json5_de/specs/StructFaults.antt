-- Why a struct is refused.
-- A promise rests on this.
use Rattle.std.specs.Prelude.{◌≡◌, ◌⊎◌, ℕ, Bool, true, false, List, ◌∷◌, ◌++◌, length, Option, Some, None, is_some, Result, IfErr}
use Rattle.std.specs.Str.{encode_utf8_all}
use Rattle.json5_grammar.specs.Language.Characters.{left_brace, right_brace}
use Rattle.json5_grammar.specs.Language.Trees.{Tree, Members, no_member}
use Rattle.json5_types.specs.declared.error.Error.{Error}
use Rattle.json5_de.specs.State.{State, SameText}
use Rattle.json5_read.specs.Brackets.{curly}
use Rattle.json5_de.specs.Faults.{RefusedBy}
use Rattle.json5_de.specs.Arrays.{Opened, NotOpened, AnswersFailedAtBracket}
use Rattle.json5_de.specs.AnyTree.{RefusesTree}
use Rattle.json5_de.specs.KeyKinds.{RefusedAsKey, string_key}
use Rattle.json5_de.specs.Objects.{MapAccessState, MembersRead}
use Rattle.json5_de.specs.ObjectFaults.{KeyRefusedAtBrace, ValueRefusedAtBrace}
use Rattle.json5_de.specs.Fields.{IsOwnAtBracket}
use Rattle.json5_de.specs.Plans.{Step, Plan, run}

-- ---- the value of a key

-- what is known of a value's fault: the name of its key, which values are allowed there, the object at that point, and the fault
abbrev pub ValueFaults : Type 1
ValueFaults = List ℕ → (Tree → Bool) → MapAccessState → Error → Type 0

-- which values may have this name, where s was read of the fields
abbrev pub may_stand : {S : Type 0} → Step S → S → List ℕ → Tree → Bool
may_stand step s name t = is_some (step s name t)

-- the faults of a field: its first value is refused as its type refuses it, and a second value isn't allowed
pub data of_field {C : Type 0} (field : List ℕ) (convert : Tree → Option C) (refuses : State → Error → State → Type 0) (name : List ℕ) (may : Tree → Bool) (old : MapAccessState) (e : Error) : Type 0 where
  first : name ≡ field → ((t : Tree) → may t ≡ is_some (convert t)) → ValueRefusedAtBrace refuses old e → of_field field convert refuses name may old e
  second : name ≡ field → ((t : Tree) → may t ≡ false) → IsOwnAtBracket old.at e → of_field field convert refuses name may old e

-- those of a field, and of others
abbrev pub or_of : ValueFaults → ValueFaults → ValueFaults
or_of a b name may old e = a name may old e ⊎ b name may old e

-- the fault of a value that is passed over: any value is allowed, and no value can be read
pub record of_any (name : List ℕ) (may : Tree → Bool) (old : MapAccessState) (e : Error) : Type 0 where
  pub every : (t : Tree) → may t ≡ true
  pub fault : ValueRefusedAtBrace (λ s own after. RefusesTree s own) old e

-- a value that is refused has one of these faults
abbrev pub RefusesMember : {S : Type 0} → ValueFaults → Step S → S → List ℕ → MapAccessState → Result (Unit {0}) Error → Type 0
RefusesMember faults step s name old result = IfErr result (λ e. old.at.reader.failed ≡ false → faults name (may_stand step s name) old e)

-- ---- the members

-- from `old` on members were read, which make s of the fields, and perhaps a key after them
pub record ReadSince {S : Type 0} (step : Step S) (start s : S) (key : Option (List ℕ × Bool)) (old now : MapAccessState) : Type 0 where
  pub live : now.at.reader.failed ≡ false
  pub same_text : SameText old.at.reader now.at.reader
  pub same_brace : now.at.start ≡ old.at.start
  pub pairs : Members
  pub are : run step start pairs ≡ Some s
  pub read : (from : State) → MembersRead from no_member None old → MembersRead from pairs key now

-- after the members that were read the next key is refused, or the value of a key that was read
pub data MembersFault {S : Type 0} (step : Step S) (faults : ValueFaults) (start : S) (old : MapAccessState) (e : Error) : Type 0 where
  at_key : (s : S) (now : MapAccessState) → ReadSince step start s None old now → KeyRefusedAtBrace (RefusedAsKey string_key) now e → MembersFault step faults start old e
  at_value : (s : S) (now : MapAccessState) (u : List ℕ) (escape_free : Bool) → ReadSince step start s (Some (u, escape_free)) old now → faults (encode_utf8_all u) (may_stand step s (encode_utf8_all u)) now e → MembersFault step faults start old e

-- members that are refused have one of these faults; if a call was refused before, this one returns `Failed` at the opening brace
pub record RefusesMembers {S : Type 0} (step : Step S) (faults : ValueFaults) (start : S) (old : MapAccessState) (result : Result (Unit {0}) Error) : Type 0 where
  pub cause : IfErr result (λ e. old.at.reader.failed ≡ false → MembersFault step faults start old e)
  pub before : AnswersFailedAtBracket old.at result

-- ---- the struct

-- its object was opened, and nothing of it was read
pub record OpenedObject (old : State) (first : MapAccessState) : Type 0 where
  pub opened : Opened curly old first.at.reader
  pub start : (before : List ℕ) → old.input ≡ before ++ left_brace ∷ first.at.reader.unread → first.at.start ≡ length (encode_utf8_all before)
  pub read : MembersRead old no_member None first

-- the opening brace, the first key or value at fault, or a field that is missing after all members were read
pub data StructFault {S D : Type 0} (plan : Plan S D) (faults : ValueFaults) (old : State) (e : Error) : Type 0 where
  not_opened : RefusedBy (NotOpened curly old.level) old e → StructFault plan faults old e
  in_pairs : (first : MapAccessState) → OpenedObject old first → MembersFault plan.step faults plan.start first e → StructFault plan faults old e
  missing : (first now : MapAccessState) (s : S) (r : List ℕ) → OpenedObject old first → ReadSince plan.step plan.start s None first now → now.at.reader.unread ≡ right_brace ∷ r → plan.build s ≡ None → IsOwnAtBracket now.at e → StructFault plan faults old e
