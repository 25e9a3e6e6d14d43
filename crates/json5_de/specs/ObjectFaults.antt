-- How the calls of an access to an object refuse.
-- A promise rests on this.
use Rattle.std.specs.Prelude.{◌≡◌, ℕ, Bool, true, false, ◌==◌, ◌||◌, List, [], ◌∷◌, ◌++◌, Option, Some, None, is_some, Result, Ok, IfOk, IfErr, OnOk, OnErr, IsOk, IsErrAnd, MatchResult}
use Rattle.json5_grammar.specs.declared.error_code.ErrorCode.{ErrorCode}
use Rattle.json5_grammar.specs.declared.error_code.ErrorCode.TheVariants as codes
use Rattle.json5_grammar.specs.Faults.Codes.{after_text}
use Rattle.json5_grammar.specs.Language.Characters.{comma_sign, colon_sign, right_brace, backslash, is_identifier_start}
use Rattle.json5_grammar.specs.Language.Strings.{is_quote}
use Rattle.json5_types.specs.declared.error.Error.{Error}
use Rattle.json5_types.specs.Errors.{FaultKind, code, custom, failed_write, kind_of, error_position}
use Rattle.json5_grammar.specs.Model.Collections.{IsKeyValue}
use Rattle.json5_grammar.specs.Language.Trees.{Tree}
use Rattle.json5_de.specs.State.{State, GivesUp}
use Rattle.json5_de.specs.DeserializeLaw.{Steady}
use Rattle.json5_read.specs.Offsets.{PositionedAt}
use Rattle.json5_read.specs.Brackets.{curly}
use Rattle.json5_de.specs.Faults.{RefusedBy}
use Rattle.json5_read.specs.EntryFaults.{AfterBlanks, NoNext, NoColon}
use Rattle.json5_de.specs.Arrays.{CompletesClose, bare, is_comma_or_closing}
use Rattle.json5_de.specs.AccessCalls.{AtEntry, PositionedFault, RefusesCall}
use Rattle.json5_de.specs.Keys.{KeyConversion}
use Rattle.json5_de.specs.Objects.{MapAccessState, AfterColon, GivesMemberKey, CompletesMemberKey, GivesMemberValue, CompletesMemberValue, bare_map}

-- a quote, a backslash or an identifier start
abbrev pub begins_key : ℕ → Bool
begins_key c = is_quote c || ((c == backslash) || is_identifier_start c)

-- a key begins x
pub record BeginsKey (x : List ℕ) : Type 0 where
  pub char : ℕ
  pub more : List ℕ
  pub split : x ≡ char ∷ more
  pub is_first : begins_key char ≡ true

-- ---- keys

-- a key is next, after the comma that is due
pub record AtKey (comma_due : Bool) (old new : State) : Type 0 where
  pub entry : AtEntry curly comma_due old new
  pub begins : BeginsKey new.unread

-- what is refused where a key may begin
pub data NoKeyHere : List ℕ → Option ErrorCode → Option (List ℕ) → Type 0 where
  no_key : (c : ℕ) (r : List ℕ) → begins_key c ≡ false → (c == right_brace) ≡ false → NoKeyHere (c ∷ r) (Some codes.ExpectedIdentifier) (Some [])
  key_missing : NoKeyHere [] (Some codes.EofParsingObject) None

-- what is refused where the next key is expected, after a comma if one is due
pub data NoKey (comma_due : Bool) : List ℕ → Option ErrorCode → Option (List ℕ) → Type 0 where
  no_next : {x : List ℕ} {reason : Option ErrorCode} {place : Option (List ℕ)} → NoNext curly comma_due x reason place → NoKey comma_due x reason place
  not_here : {x : List ℕ} {reason : Option ErrorCode} {place : Option (List ℕ)} → comma_due ≡ false → NoKeyHere x reason place → NoKey comma_due x reason place
  not_after_comma : {x : List ℕ} {reason : Option ErrorCode} {place : Option (List ℕ)} → comma_due ≡ true → AfterBlanks NoKeyHere x reason place → NoKey comma_due (comma_sign ∷ x) reason (after_text (comma_sign ∷ []) place)

-- the codes of an input that ended, of memory that ran out, and of a reader that had failed
abbrev pub is_positionless_code : ErrorCode → Bool
is_positionless_code codes.EofParsingArray = true
is_positionless_code codes.EofParsingBool = true
is_positionless_code codes.EofParsingComment = true
is_positionless_code codes.EofParsingEscapeSequence = true
is_positionless_code codes.EofParsingIdentifier = true
is_positionless_code codes.EofParsingNull = true
is_positionless_code codes.EofParsingNumber = true
is_positionless_code codes.EofParsingObject = true
is_positionless_code codes.EofParsingString = true
is_positionless_code codes.EofParsingValue = true
is_positionless_code codes.OutOfMemory = true
is_positionless_code codes.Failed = true
is_positionless_code _ = false

abbrev pub is_positionless : FaultKind → Bool
is_positionless (code c) = is_positionless_code c
is_positionless (custom text) = false
is_positionless failed_write = false

-- a fault of a key without a position gets the key's, unless its code is one that has none
pub data PositionedAtKey (IsBefore : List ℕ → Type 0) (own e : Error) : Type 0 where
  at_key : is_positionless (kind_of own) ≡ false → PositionedAt IsBefore own e → PositionedAtKey IsBefore own e
  as_it_is : is_positionless (kind_of own) ≡ true → kind_of e ≡ kind_of own → error_position e ≡ error_position own → PositionedAtKey IsBefore own e

-- a key that was read is returned, and a fault gets such a position
abbrev pub PositionsKey : {K : Type 0} → (List ℕ → Type 0) → Result K Error → Result (Option K) Error → Type 0
PositionsKey IsBefore read result = MatchResult read (λ k. result ≡ Ok (Some k)) (λ own. IsErrAnd result (PositionedAtKey IsBefore own))

-- the fault of a call for a key: no key was reached, or the key's own
pub data RefusesMemberKey (refuses : State → Error → State → Type 0) (comma_due : Bool) (old : State) (e : Error) (after : State) : Type 0 where
  not_reached : RefusedBy (NoKey comma_due) old e → RefusesMemberKey refuses comma_due old e after
  in_key : (start : State) (own : Error) → AtKey comma_due old start → refuses start own after → PositionedAtKey (λ before. start.input ≡ before ++ start.unread) own e → RefusesMemberKey refuses comma_due old e after

-- the next key of an object is read, or None is returned if the closing brace is next
pub record ReadsKeyOfMember {K C : Type 0} (content : K → C) (convert : KeyConversion C) (refuses : State → Error → State → Type 0) (comma_due : Bool) (old new : State) (result : Result (Option K) Error) : Type 0 where
  pub sound : IfOk result (λ o. GivesMemberKey content convert (bare_map old comma_due false) (bare_map new comma_due (is_some o)) o)
  pub complete : CompletesMemberKey convert (bare_map old comma_due false) result
  pub closing : CompletesClose curly (bare old comma_due) result
  pub cause : IfErr result (λ e. RefusesMemberKey refuses comma_due old e new)
  pub steady : Steady old new result

-- the key of the member that begins here is read, from wherever the reader went to it
abbrev pub ReadsKeyAtEntry : {K C : Type 0} → (K → C) → KeyConversion C → (State → Error → State → Type 0) → State → State → Result (Option K) Error → Type 0
ReadsKeyAtEntry content convert refuses old new result = (comma_due : Bool) (from : State) → AtEntry curly comma_due from old → ReadsKeyOfMember content convert refuses comma_due from new result

-- what is next at a key: after a member the comma or the brace, else a key or the brace
abbrev pub begins_next_key : Bool → ℕ → Bool
begins_next_key true c = is_comma_or_closing curly c
begins_next_key false c = begins_key c || (c == right_brace)

-- and what is said of anything else
abbrev pub no_key_code : Bool → ErrorCode
no_key_code true = codes.ExpectedComma
no_key_code false = codes.ExpectedIdentifier

-- the fault of a call for a key, at the opening brace if it has no position
abbrev pub KeyRefusedAtBrace : (State → Error → State → Type 0) → MapAccessState → Error → Type 0
KeyRefusedAtBrace refuses old e = PositionedFault (RefusesMemberKey refuses old.at.comma_due old.at.reader) old.at e

-- how a call for a key refuses
abbrev pub RefusesNextKey : {V : Type 0} → (State → Error → State → Type 0) → MapAccessState → State → Result V Error → Type 0
RefusesNextKey refuses old new result = RefusesCall (RefusesMemberKey refuses old.at.comma_due old.at.reader) true (begins_next_key old.at.comma_due) codes.EofParsingObject (no_key_code old.at.comma_due) old.at new result

-- ---- values

-- the colon after a key is passed, or refused
pub record PassesColon (old new : State) (result : Result (Unit {0}) Error) : Type 0 where
  pub passed : OnOk result (AfterColon old new)
  pub refused : IfErr result (RefusedBy NoColon old)
  pub complete : (t : Tree) (r : List ℕ) → old.failed ≡ false → IsKeyValue old.unread t r → IsOk result
  pub failed : OnErr result (GivesUp old new)
  pub steady : Steady old new result

abbrev pub is_colon : ℕ → Bool
is_colon c = c == colon_sign

-- the fault of a call for a value: its colon was not reached, or the value's own
pub data RefusesMemberValue (refuses : State → Error → State → Type 0) (old : State) (e : Error) (after : State) : Type 0 where
  no_value : RefusedBy NoColon old e → RefusesMemberValue refuses old e after
  in_value : (start : State) → AfterColon old start → refuses start e after → RefusesMemberValue refuses old e after

-- the value after a key and its colon is read
pub record ReadsValueOfMember {V C : Type 0} (content : V → C) (convert : Tree → Option C) (refuses : State → Error → State → Type 0) (old new : State) (result : Result V Error) : Type 0 where
  pub sound : IfOk result (GivesMemberValue content convert (bare_map old false true) (bare_map new true false))
  pub complete : CompletesMemberValue convert (bare_map old false true) result
  pub cause : IfErr result (λ e. RefusesMemberValue refuses old e new)
  pub steady : Steady old new result

-- the fault of a call for a value, at the opening brace if it has no position
abbrev pub ValueRefusedAtBrace : (State → Error → State → Type 0) → MapAccessState → Error → Type 0
ValueRefusedAtBrace refuses old e = PositionedFault (RefusesMemberValue refuses old.at.reader) old.at e

-- how a call for a value refuses
abbrev pub RefusesNextValue : {V : Type 0} → (State → Error → State → Type 0) → MapAccessState → State → Result V Error → Type 0
RefusesNextValue refuses old new result = RefusesCall (RefusesMemberValue refuses old.at.reader) true is_colon codes.EofParsingObject codes.ExpectedColon old.at new result
