-- What contracts see of an access to an array.
-- A promise rests on this.
use Rattle.std.specs.Prelude.{◌≡◌, ◌≢◌, ◌⊎◌, ℕ, ◌+◌, ◌-◌, ◌<◌, ◌≤◌, Bool, true, false, List, [], ◌∷◌, ◌++◌, length, Option, Some, None, Result, Ok, Err, IfOk, IfErr, OnOk, IsOk, IsOkAnd, IsErrAnd, MatchResult, ◌==◌, ◌||◌, ◌&&◌}
use Rattle.std.specs.Str.{encode_utf8_all}
use Rattle.json5_grammar.specs.Language.Characters.{comma_sign}
use Rattle.json5_grammar.specs.declared.error_code.ErrorCode.{ErrorCode}
use Rattle.json5_grammar.specs.declared.error_code.ErrorCode.TheVariants as codes
use Rattle.json5_grammar.specs.Faults.Codes.{after_text}
use Rattle.json5_grammar.specs.Language.Blanks.{Blanks}
use Rattle.json5_grammar.specs.Faults.Positions.{position_after}
use Rattle.json5_grammar.specs.Language.Trees.{Tree, Trees, array, more, no_more, depth, depths}
use Rattle.json5_grammar.specs.Language.Documents.{max_depth}
use Rattle.json5_grammar.specs.Language.Values.{Reads}
use Rattle.json5_grammar.specs.Model.Collections.{IsSign, IsEnd, Opens, IsElement, IsAtClose, Passed, Tail, snoc}
use Rattle.json5_types.specs.declared.error.Error.{Error}
use Rattle.json5_types.specs.Errors.{code, kind_of, error_position}
use Rattle.json5_de.specs.State.{State, OnlyRead, SameText, FailsIfErr, GivesUpIfErr}
use Rattle.json5_tokens.specs.Cursor.{IsOutOfMemory}
use Rattle.json5_de.specs.DeserializeLaw.{IsOkOrMemory, TookValue, Unprompted, AnswersFailed}
use Rattle.json5_read.specs.Offsets.{PositionedAt, StartsAfter}
use Rattle.json5_de.specs.ConvertLists.{if_some}
use Rattle.json5_de.specs.Faults.{IsAfter, RefusedBy, EndsWith, DiffersWith}
use Rattle.json5_read.specs.EntryFaults.{AfterBlanks}
use Rattle.json5_read.specs.declared.brackets.BracketPair.{BracketPair}
use Rattle.json5_read.specs.Brackets.{square}

-- what contracts see of an access: the reader that is lent to it, the count of bytes before the opening bracket,
-- and whether a comma is due
pub record AccessState : Type 0 where
  pub reader : State
  pub start : ℕ
  pub comma_due : Bool

-- a reader as an access, wherever the bracket is
abbrev pub bare : State → Bool → AccessState
bare reader comma_due = record { reader = reader; start = 0; comma_due = comma_due }

-- ---- brackets

-- blanks and an opening bracket were taken, and one more bracket is open
pub record Opened (b : BracketPair) (old new : State) : Type 0 where
  pub live : old.failed ≡ false
  pub room : old.level < max_depth
  pub bracket : IsSign b.opening old.unread new.unread
  pub rest : new ≡ record old { unread = new.unread; level = old.level + 1 }

-- the closing bracket was taken, after a comma if one is there and may be, and one bracket less is open
pub record Closed (b : BracketPair) (comma_due : Bool) (old new : State) : Type 0 where
  pub live : old.failed ≡ false
  pub close : IsEnd b.closing comma_due old.unread new.unread
  pub rest : new ≡ record old { unread = new.unread; level = old.level - 1 }

-- the closing bracket is next, after a comma if one is there and may be
pub record AtClose (b : BracketPair) (comma_due : Bool) (old new : State) : Type 0 where
  pub live : old.failed ≡ false
  pub close : (r : List ℕ) × IsEnd b.closing comma_due old.unread r × (new.unread ≡ b.closing ∷ r)
  pub rest : OnlyRead old new

-- nothing is refused if the closing bracket follows
abbrev pub CompletesClose : {V : Type 0} → BracketPair → AccessState → Result V Error → Type 0
CompletesClose b old result = (r : List ℕ) → old.reader.failed ≡ false → IsEnd b.closing old.comma_due old.reader.unread r → IsOk result

-- ---- an array

-- an element of the tree t was read, after the comma that was due
pub record TookElement (comma_due : Bool) (old : State) (t : Tree) (new : State) : Type 0 where
  pub live : old.failed ≡ false
  pub element : IsElement comma_due old.unread t new.unread
  pub shallow : old.level + depth t ≤ max_depth
  pub rest : OnlyRead old new

-- an element was read and v is its value, or the closing bracket is next
abbrev pub GivesElement : {V C : Type 0} → (V → C) → (Tree → Option C) → AccessState → AccessState → Option V → Type 0
GivesElement content convert old new (Some v) = (t : Tree) × TookElement old.comma_due old.reader t new.reader × (new.comma_due ≡ true) × (convert t ≡ Some (content v))
GivesElement content convert old new None = AtClose square old.comma_due old.reader new.reader × (new.comma_due ≡ old.comma_due)

-- an element that can be read is read, unless memory runs out
abbrev pub CompletesElement : {V C : Type 0} → (Tree → Option C) → AccessState → Result V Error → Type 0
CompletesElement {C = C} convert old result =
    (t : Tree) (r : List ℕ) (c : C) → old.reader.failed ≡ false → IsElement old.comma_due old.reader.unread t r → old.reader.level + depth t ≤ max_depth → convert t ≡ Some c → IsOkOrMemory result

-- if an element that converts to c is next, the call returns Ok of an element whose content is c, unless memory runs out
abbrev pub ReadsElement : {V C : Type 0} → (V → C) → (Tree → Option C) → AccessState → Result (Option V) Error → Type 0
ReadsElement {C = C} content convert old result =
    (t : Tree) (r : List ℕ) (c : C) → old.reader.failed ≡ false → IsElement old.comma_due old.reader.unread t r → old.reader.level + depth t ≤ max_depth → convert t ≡ Some c
    → MatchResult result (λ o. if_some content o ≡ Some c) IsOutOfMemory

-- ---- an array as a whole: what was read of it, and what is left

-- an array begins at `from`, these elements of it were read, and perhaps what is before the closing bracket, the last comma included
pub record ElementsRead (from : State) (ts : Trees) (now : AccessState) : Type 0 where
  pub live : from.failed ≡ false
  pub shallow : from.level + depth (array ts) ≤ max_depth
  pub inside : List ℕ
  pub bracket : Opens from.unread inside
  pub after : List ℕ
  pub passed : Passed ts false inside now.comma_due after
  pub here : (now.reader.unread ≡ after) ⊎ IsAtClose now.comma_due after now.reader.unread
  pub rest : now.reader ≡ record from { unread = now.reader.unread; level = from.level + 1 }

-- these elements are left, after a comma if one is due, and then the closing bracket, with r after it; no element is too deep
pub record ElementsLeft (ts : Trees) (r : List ℕ) (now : AccessState) : Type 0 where
  pub live : now.reader.failed ≡ false
  pub shallow : now.reader.level + depths ts ≤ max_depth
  pub tail : Tail ts now.comma_due now.reader.unread r

-- One element more was read, and v is its value; or no element was, and then what was read is the same. That the bracket is next is said by `GivesElement`.
abbrev pub ReadsMore : {V C : Type 0} → (V → C) → (Tree → Option C) → AccessState → AccessState → Option V → Type 0
ReadsMore content convert old new (Some v) = (t : Tree) × (convert t ≡ Some (content v)) × ((from : State) (ts : Trees) → ElementsRead from ts old → ElementsRead from (snoc ts t) new)
ReadsMore content convert old new None = (from : State) (ts : Trees) → ElementsRead from ts old → ElementsRead from ts new

-- if elements are left and the first converts, it was read, unless memory ran out, and the others are left; if no element is left, None was returned.
-- Nothing is said of the refusal of an element that doesn't convert.
abbrev pub LeavesFewer : {V C : Type 0} → (V → C) → (Tree → Option C) → Trees → List ℕ → AccessState → Result (Option V) Error → Type 0
LeavesFewer content convert no_more r new (Ok None) = ElementsLeft no_more r new
LeavesFewer content convert no_more r new (Ok (Some v)) = ⊥
LeavesFewer content convert no_more r new (Err e) = ⊥
LeavesFewer content convert (more t ts) r new (Ok (Some v)) = (convert t ≡ Some (content v)) × ElementsLeft ts r new
LeavesFewer content convert (more t ts) r new (Ok None) = ⊥
LeavesFewer {C = C} content convert (more t ts) r new (Err e) = (c : C) → convert t ≡ Some c → IsOutOfMemory e

-- ---- positions

-- the same fault, at the opening bracket if it had no position
abbrev pub PositionedAtBracket : AccessState → Error → Error → Type 0
PositionedAtBracket s own e = PositionedAt (StartsAfter s.reader.input s.start) own e

-- the fault's position is the opening bracket
abbrev pub IsAtBracket : AccessState → Error → Type 0
IsAtBracket s e = (before : List ℕ) → StartsAfter s.reader.input s.start before → error_position e ≡ Some (position_after before)

-- `Failed`, at the opening bracket
abbrev pub IsFailedAtBracket : AccessState → Error → Type 0
IsFailedAtBracket s e = (kind_of e ≡ code codes.Failed) × IsAtBracket s e

-- a call after a refusal returns `Failed` at the opening bracket
abbrev pub AnswersFailedAtBracket : {V : Type 0} → AccessState → Result V Error → Type 0
AnswersFailedAtBracket s result = s.reader.failed ≡ true → IsErrAnd result (IsFailedAtBracket s)

abbrev pub HasPosition : Error → Type 0
HasPosition e = error_position e ≢ None

-- an opening bracket follows the blanks w, and no more brackets may be open
pub record AtFull (b : BracketPair) (old : State) (w : List ℕ) : Type 0 where
  pub live : old.failed ≡ false
  pub full : old.level ≡ max_depth
  pub blank : Blanks w
  pub more : List ℕ
  pub split : old.unread ≡ w ++ b.opening ∷ more

-- TooDeep at that bracket
abbrev pub TooDeepAt : {V : Type 0} → BracketPair → State → Result V Error → Type 0
TooDeepAt b old result = (w : List ℕ) → AtFull b old w → IsErrAnd result (IsAfter codes.TooDeep old w)

-- ---- what begins the rest

abbrev pub is_opening : BracketPair → ℕ → Bool
is_opening b c = c == b.opening

-- after an element or a member
abbrev pub is_comma_or_closing : BracketPair → ℕ → Bool
is_comma_or_closing b c = (c == comma_sign) || (c == b.closing)

-- the closing bracket, or the comma that may be before it
abbrev pub begins_close : BracketPair → Bool → ℕ → Bool
begins_close b comma_due c = (c == b.closing) || (comma_due && (c == comma_sign))

-- ---- what is refused

-- where an opening bracket is expected, and so many are open: there is no bracket, or it is one too many
pub data NotOpened (b : BracketPair) (level : ℕ) : List ℕ → Option ErrorCode → Option (List ℕ) → Type 0 where
  no_bracket : (c : ℕ) (r : List ℕ) → (c == b.opening) ≡ false → NotOpened b level (c ∷ r) (Some b.not_opened) (Some [])
  text_ends : NotOpened b level [] (Some b.ends) None
  too_deep : (r : List ℕ) → level ≡ max_depth → NotOpened b level (b.opening ∷ r) (Some codes.TooDeep) (Some [])

-- where the closing bracket is expected
pub data NoBracket (b : BracketPair) (comma : Bool) : List ℕ → Option ErrorCode → Option (List ℕ) → Type 0 where
  other_sign : (c : ℕ) (r : List ℕ) → (c == b.closing) ≡ false → (comma ≡ true → (c == comma_sign) ≡ false) → NoBracket b comma (c ∷ r) (Some b.not_closed) (Some [])
  bracket_missing : NoBracket b comma [] (Some b.ends) None

-- where the closing bracket is expected, and a comma before it may be
pub data NotClosed (b : BracketPair) (comma_due : Bool) : List ℕ → Option ErrorCode → Option (List ℕ) → Type 0 where
  not_here : {x : List ℕ} {reason : Option ErrorCode} {place : Option (List ℕ)} → NoBracket b comma_due x reason place → NotClosed b comma_due x reason place
  after_comma : {x : List ℕ} {reason : Option ErrorCode} {place : Option (List ℕ)} → comma_due ≡ true → AfterBlanks (NoBracket b false) x reason place
      → NotClosed b comma_due (comma_sign ∷ x) reason (after_text (comma_sign ∷ []) place)

-- ---- what the calls of an access mean

-- the count of bytes before the bracket that was taken
abbrev pub IsStart : BracketPair → List ℕ → AccessState → Type 0
IsStart b input s = (before : List ℕ) → input ≡ before ++ b.opening ∷ s.reader.unread → s.start ≡ length (encode_utf8_all before)

-- where a bracket that opens is expected
pub record OpensAs {A : Type 0} (b : BracketPair) (state_of : A → AccessState) (old : State) (result : Result A Error) : Type 0 where
  pub opened : IfOk result (λ a. Opened b old (state_of a).reader × ((state_of a).comma_due ≡ false))
  pub start : IfOk result (λ a. IsStart b old.input (state_of a))
  pub complete : (r : List ℕ) → old.failed ≡ false → IsSign b.opening old.unread r → old.level < max_depth → IsOk result
  pub refused : IfErr result (RefusedBy (NotOpened b old.level) old)
  pub ends : EndsWith b.ends old result
  pub differs : DiffersWith (is_opening b) b.not_opened old result
  pub too_deep : TooDeepAt b old result
  pub unprompted : Unprompted old result
  pub before : AnswersFailed old result

-- the opening bracket is taken, which begins after so many bytes; a refusal is for good
pub record TakesOpening (b : BracketPair) (old new : State) (result : Result ℕ Error) : Type 0 where
  pub opens : OpensAs b (λ start. record { reader = new; start = start; comma_due = false }) old result
  pub failed : GivesUpIfErr old new result

-- where the closing bracket is expected
pub record ClosesAs (b : BracketPair) (comma_due : Bool) (old new : State) (result : Result (Unit {0}) Error) : Type 0 where
  pub closed : OnOk result (Closed b comma_due old new)
  pub complete : (r : List ℕ) → old.failed ≡ false → IsEnd b.closing comma_due old.unread r → IsOk result
  pub refused : IfErr result (RefusedBy (NotClosed b comma_due) old)
  pub ends : EndsWith b.ends old result
  pub differs : DiffersWith (begins_close b comma_due) b.not_closed old result
  pub unprompted : Unprompted old result
  pub before : AnswersFailed old result

-- an array is opened by an access that holds the reader so: nothing of it was read, and if an array can be read, its elements are left
pub record OpensArray {A : Type 0} (Held : A → Type 0) (state_of : A → AccessState) (old : State) (result : Result A Error) : Type 0 where
  pub held : IfOk result Held
  pub bracket : OpensAs square state_of old result
  pub same_text : IfOk result (λ a. SameText old (state_of a).reader)
  pub read : IfOk result (λ a. ElementsRead old no_more (state_of a))
  pub left : (ts : Trees) (r : List ℕ) → old.failed ≡ false → Reads old.unread (array ts) r → old.level + depth (array ts) ≤ max_depth → IsOkAnd result (λ a. ElementsLeft ts r (state_of a))

-- an array is closed: the elements that were read are all of it
pub record ClosesArray (old : AccessState) (new : State) (result : Result (Unit {0}) Error) : Type 0 where
  pub bracket : ClosesAs square old.comma_due old.reader new result
  pub same_text : SameText old.reader new
  pub failed : FailsIfErr new result
  pub read : OnOk result ((from : State) (ts : Trees) → ElementsRead from ts old → TookValue from (array ts) new)
  pub left : (r : List ℕ) → ElementsLeft no_more r old → IsOk result
