-- What contracts see of an access to an object.
-- A promise rests on this.
use Rattle.std.specs.Prelude.{◌≡◌, ◌⊎◌, ℕ, ◌+◌, ◌≤◌, Bool, true, false, List, Option, Some, None, is_some, Result, Ok, Err, IfOk, OnOk, OnErr, IsOk, IsOkAnd, MatchResult}
use Rattle.json5_grammar.specs.Language.Characters.{colon_sign}
use Rattle.json5_grammar.specs.Language.Trees.{Tree, Members, object, member, no_member, depth, member_depths}
use Rattle.json5_grammar.specs.Language.Documents.{max_depth}
use Rattle.json5_grammar.specs.Language.Values.{Reads}
use Rattle.json5_grammar.specs.Model.Collections.{IsSign, OpensObject, IsKey, IsKeyValue, IsAtBrace, MembersPassed, MembersTail, snoc_member}
use Rattle.json5_types.specs.declared.error.Error.{Error}
use Rattle.json5_tokens.specs.Cursor.{IsOutOfMemory}
use Rattle.json5_de.specs.State.{State, OnlyRead, SameText, FailsIfErr}
use Rattle.json5_de.specs.DeserializeLaw.{IsOkOrMemory, TookValue}
use Rattle.json5_de.specs.Keys.{KeyConversion}
use Rattle.json5_de.specs.ConvertLists.{if_some}
use Rattle.json5_read.specs.Brackets.{curly}
use Rattle.json5_de.specs.Arrays.{AccessState, bare, AtClose, OpensAs, ClosesAs}

-- as of an array, and whether a key was read and its value wasn't yet
pub record MapAccessState : Type 0 where
  pub at : AccessState
  pub pending : Bool

-- a reader as an access, wherever the brace is
abbrev pub bare_map : State → Bool → Bool → MapAccessState
bare_map reader comma_due pending = record { at = bare reader comma_due; pending = pending }

-- ---- a key, and then its value

-- a key that spells u was read, after the comma that was due; escape_free says that no escape is used
pub record TookMemberKey (comma_due : Bool) (old : State) (u : List ℕ) (escape_free : Bool) (new : State) : Type 0 where
  pub live : old.failed ≡ false
  pub key : IsKey comma_due old.unread u escape_free new.unread
  pub rest : OnlyRead old new

-- the colon after a key was read
pub record AfterColon (old new : State) : Type 0 where
  pub live : old.failed ≡ false
  pub colon : IsSign colon_sign old.unread new.unread
  pub rest : OnlyRead old new

-- a colon and a value of the tree t were read
pub record TookMemberValue (old : State) (t : Tree) (new : State) : Type 0 where
  pub live : old.failed ≡ false
  pub value : IsKeyValue old.unread t new.unread
  pub shallow : old.level + depth t ≤ max_depth
  pub rest : OnlyRead old new

-- a key was read and k is what it converts to, and its value is to follow; or the closing brace is next
abbrev pub GivesMemberKey : {K C : Type 0} → (K → C) → KeyConversion C → MapAccessState → MapAccessState → Option K → Type 0
GivesMemberKey content convert old new (Some k) =
    (u : List ℕ) × (escape_free : Bool) × TookMemberKey old.at.comma_due old.at.reader u escape_free new.at.reader × (convert u escape_free ≡ Some (content k)) × (new.at.comma_due ≡ old.at.comma_due) × (new.pending ≡ true)
GivesMemberKey content convert old new None = AtClose curly old.at.comma_due old.at.reader new.at.reader × (new.at.comma_due ≡ old.at.comma_due) × (new.pending ≡ false)

-- a value was read and v is what it converts to, and a comma is due
abbrev pub GivesMemberValue : {V C : Type 0} → (V → C) → (Tree → Option C) → MapAccessState → MapAccessState → V → Type 0
GivesMemberValue content convert old new v = (t : Tree) × TookMemberValue old.at.reader t new.at.reader × (convert t ≡ Some (content v)) × (new.at.comma_due ≡ true) × (new.pending ≡ false)

-- a key that converts is read, unless memory runs out
abbrev pub CompletesMemberKey : {V C : Type 0} → KeyConversion C → MapAccessState → Result V Error → Type 0
CompletesMemberKey {C = C} convert old result =
    (u : List ℕ) (escape_free : Bool) (r : List ℕ) (c : C) → old.at.reader.failed ≡ false → IsKey old.at.comma_due old.at.reader.unread u escape_free r → convert u escape_free ≡ Some c → IsOkOrMemory result

-- a key without an escape that is next is read without memory
abbrev pub CompletesEscapeFreeMember : {V : Type 0} → MapAccessState → Result V Error → Type 0
CompletesEscapeFreeMember old result = (u r : List ℕ) → old.at.reader.failed ≡ false → IsKey old.at.comma_due old.at.reader.unread u true r → IsOk result

-- if a key that converts to c is next, the call returns Ok of a key whose content is c, unless memory runs out
abbrev pub ReadsMemberKey : {V C : Type 0} → (V → C) → KeyConversion C → MapAccessState → Result (Option V) Error → Type 0
ReadsMemberKey {C = C} content convert old result =
    (u : List ℕ) (escape_free : Bool) (r : List ℕ) (c : C) → old.at.reader.failed ≡ false → IsKey old.at.comma_due old.at.reader.unread u escape_free r → convert u escape_free ≡ Some c
    → MatchResult result (λ o. if_some content o ≡ Some c) IsOutOfMemory

-- a value that converts and is allocation-free is read without memory
abbrev pub CompletesFreeMemberValue : {V C : Type 0} → (Tree → Option C) → (Tree → Bool) → MapAccessState → Result V Error → Type 0
CompletesFreeMemberValue {C = C} convert allocation_free old result =
    (t : Tree) (r : List ℕ) (c : C) → old.at.reader.failed ≡ false → IsKeyValue old.at.reader.unread t r → old.at.reader.level + depth t ≤ max_depth → convert t ≡ Some c → allocation_free t ≡ true → IsOk result

-- a value that converts is read, unless memory runs out
abbrev pub CompletesMemberValue : {V C : Type 0} → (Tree → Option C) → MapAccessState → Result V Error → Type 0
CompletesMemberValue {C = C} convert old result =
    (t : Tree) (r : List ℕ) (c : C) → old.at.reader.failed ≡ false → IsKeyValue old.at.reader.unread t r → old.at.reader.level + depth t ≤ max_depth → convert t ≡ Some c → IsOkOrMemory result

-- if a value that converts to c is next, the call returns Ok of a value whose content is c, unless memory runs out
abbrev pub ReadsMemberValue : {V C : Type 0} → (V → C) → (Tree → Option C) → MapAccessState → Result V Error → Type 0
ReadsMemberValue {C = C} content convert old result =
    (t : Tree) (r : List ℕ) (c : C) → old.at.reader.failed ≡ false → IsKeyValue old.at.reader.unread t r → old.at.reader.level + depth t ≤ max_depth → convert t ≡ Some c
    → MatchResult result (λ v. content v ≡ c) IsOutOfMemory

-- ---- an object as a whole: what was read of it, and what is left

-- what was read after the last member: nothing of the next, perhaps what is before the closing brace, or a key
abbrev pub StandsAfter : Option (List ℕ × Bool) → Bool → List ℕ → List ℕ → Type 0
StandsAfter None comma_due x y = (y ≡ x) ⊎ IsAtBrace comma_due x y
StandsAfter (Some (u, escape_free)) comma_due x y = IsKey comma_due x u escape_free y

-- an object begins at `from`, these members of it were read, and perhaps a key after them
pub record MembersRead (from : State) (ps : Members) (key : Option (List ℕ × Bool)) (now : MapAccessState) : Type 0 where
  pub live : from.failed ≡ false
  pub shallow : from.level + depth (object ps) ≤ max_depth
  pub inside : List ℕ
  pub bracket : OpensObject from.unread inside
  pub after : List ℕ
  pub passed : MembersPassed ps false inside now.at.comma_due after
  pub here : StandsAfter key now.at.comma_due after now.at.reader.unread
  pub pending : now.pending ≡ is_some key
  pub rest : now.at.reader ≡ record from { unread = now.at.reader.unread; level = from.level + 1 }

-- these members and the closing brace follow, with r after the brace; if a key is pending, the first member without its key
abbrev pub LeftAfter : Bool → Members → Bool → List ℕ → List ℕ → Type 0
LeftAfter false ps comma_due x r = MembersTail ps comma_due x r
LeftAfter true no_member comma_due x r = ⊥
LeftAfter true (member u escape_free t ps) comma_due x r = (z : List ℕ) × IsKeyValue x t z × MembersTail ps true z r

-- these members are left, the first perhaps without its key, and then the closing brace, with r after it; no member is too deep
pub record MembersLeft (ps : Members) (r : List ℕ) (now : MapAccessState) : Type 0 where
  pub live : now.at.reader.failed ≡ false
  pub shallow : now.at.reader.level + member_depths ps ≤ max_depth
  pub tail : LeftAfter now.pending ps now.at.comma_due now.at.reader.unread r

-- a key was read after the members, and k is what it converts to; or no key, and what was read is the same
abbrev pub ReadsAKey : {K C : Type 0} → (K → C) → KeyConversion C → MapAccessState → MapAccessState → Option K → Type 0
ReadsAKey content convert old new (Some k) =
    (u : List ℕ) × (escape_free : Bool) × (convert u escape_free ≡ Some (content k)) × ((from : State) (ps : Members) → MembersRead from ps None old → MembersRead from ps (Some (u, escape_free)) new)
ReadsAKey content convert old new None = (from : State) (ps : Members) → MembersRead from ps None old → MembersRead from ps None new

-- the key that was read has this value, one member more
abbrev pub ReadsAMember : {V C : Type 0} → (V → C) → (Tree → Option C) → MapAccessState → MapAccessState → V → Type 0
ReadsAMember content convert old new v =
    (t : Tree) × (convert t ≡ Some (content v)) × ((from : State) (ps : Members) (u : List ℕ) (escape_free : Bool) → MembersRead from ps (Some (u, escape_free)) old → MembersRead from (snoc_member ps u escape_free t) None new)

-- if members are left and the first one's key converts, it was read, unless memory ran out, and its value is left; if no member is left, None was returned.
-- Nothing is said of the refusal of a key that doesn't convert.
abbrev pub LeavesAValue : {K C : Type 0} → (K → C) → KeyConversion C → Members → List ℕ → MapAccessState → Result (Option K) Error → Type 0
LeavesAValue content convert no_member r new (Ok None) = MembersLeft no_member r new
LeavesAValue content convert no_member r new (Ok (Some k)) = ⊥
LeavesAValue content convert no_member r new (Err e) = ⊥
LeavesAValue content convert (member u escape_free t ps) r new (Ok None) = ⊥
LeavesAValue content convert (member u escape_free t ps) r new (Ok (Some k)) = (convert u escape_free ≡ Some (content k)) × MembersLeft (member u escape_free t ps) r new
LeavesAValue {C = C} content convert (member u escape_free t ps) r new (Err e) = (c : C) → convert u escape_free ≡ Some c → IsOutOfMemory e

-- if the first member's value converts, it was read, unless memory ran out, and the other members are left
abbrev pub LeavesObjectMembers : {V C : Type 0} → (V → C) → (Tree → Option C) → Tree → Members → List ℕ → MapAccessState → Result V Error → Type 0
LeavesObjectMembers content convert t ps r new (Ok v) = (convert t ≡ Some (content v)) × MembersLeft ps r new
LeavesObjectMembers {C = C} content convert t ps r new (Err e) = (c : C) → convert t ≡ Some c → IsOutOfMemory e

-- the same of any members that are left
abbrev pub LeavesOthers : {V C : Type 0} → (V → C) → (Tree → Option C) → MapAccessState → MapAccessState → Result V Error → Type 0
LeavesOthers content convert old new result = (u : List ℕ) (escape_free : Bool) (t : Tree) (ps : Members) (r : List ℕ) → MembersLeft (member u escape_free t ps) r old → LeavesObjectMembers content convert t ps r new result

-- the first of the members that are left has a key without an escape, which is read without memory
abbrev pub ReadsKeyFree : {V : Type 0} → MapAccessState → Result V Error → Type 0
ReadsKeyFree old result = (u : List ℕ) (t : Tree) (ps : Members) (r : List ℕ) → MembersLeft (member u true t ps) r old → IsOk result

-- the value of the key that was read converts and is allocation-free, and is read without memory
abbrev pub ReadsValueFree : {V C : Type 0} → (Tree → Option C) → (Tree → Bool) → MapAccessState → Result V Error → Type 0
ReadsValueFree {C = C} convert allocation_free old result =
    (u : List ℕ) (escape_free : Bool) (t : Tree) (ps : Members) (r : List ℕ) (c : C) → MembersLeft (member u escape_free t ps) r old → convert t ≡ Some c → allocation_free t ≡ true → IsOk result

-- ---- what the calls mean

-- a key is pending as it was
abbrev pub KeepsPending : MapAccessState → MapAccessState → Type 0
KeepsPending old new = new.pending ≡ old.pending

-- whether a key waits for its value, which a call that is refused leaves as it was
pub record SetsPending {V : Type 0} (waits : V → Bool) (old new : MapAccessState) (result : Result V Error) : Type 0 where
  pub given : IfOk result (λ v. new.pending ≡ waits v)
  pub kept : OnErr result (KeepsPending old new)

-- an object is opened by an access that holds the reader so: nothing of it was read, and if an object can be read, its members are left
pub record OpensMap {A : Type 0} (Held : A → Type 0) (state_of : A → MapAccessState) (old : State) (result : Result A Error) : Type 0 where
  pub held : IfOk result Held
  pub bracket : OpensAs curly (λ a. (state_of a).at) old result
  pub no_key : IfOk result (λ a. (state_of a).pending ≡ false)
  pub same_text : IfOk result (λ a. SameText old (state_of a).at.reader)
  pub read : IfOk result (λ a. MembersRead old no_member None (state_of a))
  pub left : (ps : Members) (r : List ℕ) → old.failed ≡ false → Reads old.unread (object ps) r → old.level + depth (object ps) ≤ max_depth → IsOkAnd result (λ a. MembersLeft ps r (state_of a))

-- an object is closed: the members that were read are all of it
pub record ClosesMap (old : MapAccessState) (new : State) (result : Result (Unit {0}) Error) : Type 0 where
  pub bracket : ClosesAs curly old.at.comma_due old.at.reader new result
  pub same_text : SameText old.at.reader new
  pub failed : FailsIfErr new result
  pub read : OnOk result ((from : State) (ps : Members) → MembersRead from ps None old → TookValue from (object ps) new)
  pub left : (r : List ℕ) → old.pending ≡ false → MembersLeft no_member r old → IsOk result
