-- Enums: a value names one of the variants, and may hold its content.
-- A promise rests on this.
use Rattle.std.specs.Prelude.{◌≡◌, ◌⊎◌, ◌==◌, ◌||◌, ℕ, ◌+◌, ◌<◌, ◌≤◌, Bool, true, false, List, [], ◌∷◌, ◌++◌, length, Option, Some, None, is_some, Result, IfOk, IfErr, OnOk, OnErr, IsOk, IsOkAnd, MatchResult}
use Rattle.std.specs.Str.{encode_utf8_all}
use Rattle.json5_grammar.specs.Language.Characters.{left_brace}
use Rattle.json5_grammar.specs.declared.error_code.ErrorCode.{ErrorCode}
use Rattle.json5_grammar.specs.declared.error_code.ErrorCode.TheVariants as codes
use Rattle.json5_grammar.specs.Language.Documents.{max_depth}
use Rattle.json5_grammar.specs.Model.Collections.{ReadsKey, IsKeyValue, IsEnd, IsSign, IsBrace}
use Rattle.json5_grammar.specs.Language.Strings.{is_quote}
use Rattle.json5_grammar.specs.Language.Trees.{Tree, Trees, Members, null, boolean, number, text, array, object, member, no_member, no_more, depth}
use Rattle.json5_grammar.specs.Language.Values.{Reads}
use Rattle.json5_types.specs.declared.error.Error.{Error}
use Rattle.json5_tokens.specs.Cursor.{IsOutOfMemory}
use Rattle.json5_de.specs.State.{State, SameText, GivesUp, GivesUpIfErr, FailsIfErr}
use Rattle.json5_de.specs.DeserializeLaw.{IsOkOrMemory, TookValue, Unprompted, AnswersFailed}
use Rattle.json5_de.specs.Convert.{unit_of, index_of}
use Rattle.json5_de.specs.ConvertLists.{if_some}
use Rattle.json5_de.specs.Refinement.{if_more}
use Rattle.json5_read.specs.Offsets.{PositionedAt, StartsAfter}
use Rattle.json5_de.specs.ReaderSteps.{PassedGap, IsMismatch}
use Rattle.json5_de.specs.Faults.{RefusedBy, RefusedByOrMemory, NotText, EndsWith, DiffersWith}
use Rattle.json5_read.specs.declared.brackets.BracketPair.{BracketPair}
use Rattle.json5_read.specs.Brackets.{square, curly}
use Rattle.json5_de.specs.Arrays.{AccessState, IsStart, Opened, NotOpened, Closed, NotClosed, ClosesAs, ClosesArray, ElementsRead, ElementsLeft}
use Rattle.json5_de.specs.Keys.{TookKey}
use Rattle.json5_de.specs.KeyKinds.{NotKey, not_converted}
use Rattle.json5_de.specs.Objects.{MapAccessState, MembersRead, MembersLeft, AfterColon, ClosesMap, bare_map}
use Rattle.json5_de.specs.ObjectFaults.{begins_key}
use Rattle.json5_read.specs.EntryFaults.{NoColon}

-- ---- what a tree means

-- which of these names a tree gives, by its first index among them, and the variant's content: a string has none, an object of
-- one member has the member's value
abbrev pub named_variant : List (List ℕ) → Tree → Option (ℕ × Option Tree)
named_variant names null = None
named_variant names (boolean b) = None
named_variant names (number n) = None
named_variant names (text u escape_free) = if_some (λ k. (k, None)) (index_of names u escape_free)
named_variant names (array ts) = None
named_variant names (object no_member) = None
named_variant names (object (member u escape_free t no_member)) = if_some (λ k. (k, Some t)) (index_of names u escape_free)
named_variant names (object (member u escape_free t (member v other s ps))) = None

-- what is made of the variant and its content
abbrev pub enum_of : {C : Type 0} → List (List ℕ) → (ℕ → Option Tree → Option C) → Tree → Option C
enum_of names variant t = if_more (λ (k, c). variant k c) (named_variant names t)

-- no content, or null
abbrev pub unit_content : Option Tree → Option (Unit {0})
unit_content None = Some tt
unit_content (Some t) = unit_of t

-- a content that converts
abbrev pub content_of : {C : Type 0} → (Tree → Option C) → Option Tree → Option C
content_of convert None = None
content_of convert (Some t) = convert t

-- which contents are read without memory, from which trees are
abbrev pub content_free : (Tree → Bool) → Option Tree → Bool
content_free allocation_free None = true
content_free allocation_free (Some t) = allocation_free t

-- ---- an access to a variant

-- what contracts see of it: the reader that is lent to it, the count of bytes before the string or the brace, the variant's index among the
-- names, and whether it has content that is to be read
pub record EnumAccessState : Type 0 where
  pub reader : State
  pub start : ℕ
  pub variant : ℕ
  pub has_content : Bool

-- the opening brace, the only key and its colon were read, and the content is next
pub record AtContent (from : State) (u : List ℕ) (escape_free : Bool) (now : State) : Type 0 where
  pub keyed : State
  pub key : MembersRead from no_member (Some (u, escape_free)) (bare_map keyed false true)
  pub colon : AfterColon keyed now

-- the name of a variant was read: it is a string, or a key whose value is next
abbrev pub AfterName : Bool → State → List ℕ → Bool → State → Type 0
AfterName false from u escape_free now = TookValue from (text u escape_free) now
AfterName true from u escape_free now = AtContent from u escape_free now

-- the name of a variant was read of a value that begins at `from`, after the blanks
pub record NameRead (names : List (List ℕ)) (from : State) (now : EnumAccessState) : Type 0 where
  pub name : List ℕ
  pub escape_free : Bool
  pub place : index_of names name escape_free ≡ Some now.variant
  pub after : AfterName now.has_content from name escape_free now.reader
  pub between : State
  pub passed : PassedGap from between
  pub counted : (before : List ℕ) → between.input ≡ before ++ between.unread → now.start ≡ length (encode_utf8_all before)

-- x begins with the content and the closing brace, and r is left after them; without content, x is r
abbrev pub ContentTail : Option Tree → List ℕ → List ℕ → Type 0
ContentTail None x r = x ≡ r
ContentTail (Some t) x r = (z : List ℕ) × Reads x t z × IsBrace true z r

abbrev pub content_depth : Option Tree → ℕ
content_depth None = 0
content_depth (Some t) = depth t

-- this content is left, and then the closing brace, with r after it
pub record ContentLeft (c : Option Tree) (r : List ℕ) (now : EnumAccessState) : Type 0 where
  pub live : now.reader.failed ≡ false
  pub content : now.has_content ≡ is_some c
  pub shallow : now.reader.level + content_depth c ≤ max_depth
  pub tail : ContentTail c now.reader.unread r

-- ---- what is refused

abbrev pub is_left_brace : ℕ → Bool
is_left_brace c = c == left_brace

-- a quote or an opening brace
abbrev pub begins_variant : ℕ → Bool
begins_variant c = is_quote c || is_left_brace c

-- neither a string nor an object is next
pub data NoVariant : List ℕ → Option ErrorCode → Option (List ℕ) → Type 0 where
  no_variant : (c : ℕ) (r : List ℕ) → begins_variant c ≡ false → NoVariant (c ∷ r) (Some codes.ExpectedStringOrObject) (Some [])
  variant_missing : NoVariant [] (Some codes.EofParsingValue) None

-- no key is next
pub data NotKeyed : List ℕ → Option ErrorCode → Option (List ℕ) → Type 0 where
  not_keyed : (c : ℕ) (r : List ℕ) → begins_key c ≡ false → NotKeyed (c ∷ r) (Some codes.ExpectedIdentifier) (Some [])
  key_missing : NotKeyed [] (Some codes.EofParsingObject) None

-- x begins with such a character
pub record FirstCharIs (begins : ℕ → Bool) (x : List ℕ) : Type 0 where
  pub char : ℕ
  pub more : List ℕ
  pub split : x ≡ char ∷ more
  pub is_first : begins char ≡ true

-- after a gap such a character is next
pub record IsNext (begins : ℕ → Bool) (old start : State) : Type 0 where
  pub passed : PassedGap old start
  pub first : FirstCharIs begins start.unread

-- why the only key of an object is refused: no key is next, it names no variant, or no colon follows it
pub data RefusesOnlyKey (names : List (List ℕ)) (inside : State) (e : Error) : Type 0 where
  no_only_key : RefusedBy NotKeyed inside e → RefusesOnlyKey names inside e
  other_key : (start : State) → IsNext begins_key inside start → RefusedByOrMemory (NotKey (not_converted None (index_of names))) start e → RefusesOnlyKey names inside e
  not_followed : (u : List ℕ) (escape_free : Bool) (keyed : State) → TookKey inside u escape_free keyed → RefusedBy NoColon keyed e → RefusesOnlyKey names inside e

-- an object was opened and its only key refused: a fault without a position gets the brace's
pub record RefusesKeyed (names : List (List ℕ)) (old : State) (e : Error) : Type 0 where
  pub inside : State
  pub opened : Opened curly old inside
  pub own : Error
  pub cause : RefusesOnlyKey names inside own
  pub placed : PositionedAt (λ before. inside.input ≡ before ++ left_brace ∷ inside.unread) own e

-- why no variant is named
pub data RefusesName (names : List (List ℕ)) (old : State) (e : Error) : Type 0 where
  nothing_named : RefusedBy NoVariant old e → RefusesName names old e
  other_text : (start : State) → IsNext is_quote old start → RefusedByOrMemory (NotText None (index_of names)) start e → RefusesName names old e
  not_opened : (start : State) → IsNext is_left_brace old start → RefusedBy (NotOpened curly start.level) start e → RefusesName names old e
  in_object : (start : State) → IsNext is_left_brace old start → RefusesKeyed names start e → RefusesName names old e

-- why a content is refused: there is none, its type refuses it, or its brace isn't closed. A fault of its type without a position gets the brace's.
pub data RefusesContent (refuses : State → Error → State → Type 0) (old : EnumAccessState) (e : Error) : Type 0 where
  no_content : old.has_content ≡ false → IsMismatch old.reader.input old.start e → RefusesContent refuses old e
  in_content : (own : Error) (after : State) → old.has_content ≡ true → refuses old.reader own after → PositionedAt (StartsAfter old.reader.input old.start) own e → RefusesContent refuses old e
  not_closed : (t : Tree) (after : State) → old.has_content ≡ true → TookValue old.reader t after → RefusedBy (NotClosed curly true) after e → RefusesContent refuses old e

-- ---- the steps

-- the only key of an object and its colon are read
pub record ReadsOnlyKey (names : List (List ℕ)) (old new : State) (result : Result ℕ Error) : Type 0 where
  pub sound : IfOk result (λ k. (u : List ℕ) × (escape_free : Bool) × (keyed : State) × TookKey old u escape_free keyed × AfterColon keyed new × (index_of names u escape_free ≡ Some k))
  pub complete : (u x r : List ℕ) (escape_free : Bool) (t : Tree) (k : ℕ) → old.failed ≡ false → ReadsKey old.unread u escape_free x → IsKeyValue x t r → index_of names u escape_free ≡ Some k → IsOkOrMemory result
  pub refused : IfErr result (λ e. old.failed ≡ false → RefusesOnlyKey names old e)
  pub unprompted : Unprompted old result
  pub failed : OnErr result (GivesUp old new)

-- an object is opened, and its only key and the colon are read
pub record ReadsKeyed (names : List (List ℕ)) (old new : State) (result : Result ℕ Error) : Type 0 where
  pub sound : IfOk result (λ k. (u : List ℕ) × (escape_free : Bool) × AtContent old u escape_free new × (index_of names u escape_free ≡ Some k))
  pub complete : (u r : List ℕ) (escape_free : Bool) (t : Tree) (k : ℕ) → old.failed ≡ false → Reads old.unread (object (member u escape_free t no_member)) r → old.level + depth (object (member u escape_free t no_member)) ≤ max_depth → index_of names u escape_free ≡ Some k
      → IsOkOrMemory result
  pub refused : IfErr result (λ e. RefusedBy (NotOpened curly old.level) old e ⊎ RefusesKeyed names old e)
  pub unprompted : Unprompted old result
  pub failed : OnErr result (GivesUp old new)

-- a value that converts to v's content and the closing brace after it are read
pub record ReadsInBrace {V C : Type 0} (content : V → C) (convert : Tree → Option C) (allocation_free : Tree → Bool) (refuses : State → Error → State → Type 0) (start : ℕ) (old new : State) (result : Result V Error) : Type 0 where
  pub sound : IfOk result (λ v. (t : Tree) × (after : State) × TookValue old t after × Closed curly true after new × (convert t ≡ Some (content v)))
  pub complete : (t : Tree) (z r : List ℕ) (c : C) → old.failed ≡ false → Reads old.unread t z → IsBrace true z r → old.level + depth t ≤ max_depth → convert t ≡ Some c → IsOkOrMemory result
  pub no_memory : (t : Tree) (z r : List ℕ) (c : C) → old.failed ≡ false → Reads old.unread t z → IsBrace true z r → old.level + depth t ≤ max_depth → convert t ≡ Some c → allocation_free t ≡ true → IsOk result
  pub refused : IfErr result (λ e. (k : ℕ) → RefusesContent refuses (record { reader = old; start = start; variant = k; has_content = true }) e)
  pub unprompted : Unprompted old result
  pub same_text : SameText old new
  pub failed : FailsIfErr new result

-- ---- what the calls mean

-- the name of a variant is read: a string, or the only key of an object and its colon
pub record NamesVariant {A : Type 0} (names : List (List ℕ)) (state_of : A → EnumAccessState) (old : State) (result : Result A Error) : Type 0 where
  pub read : IfOk result (λ a. NameRead names old (state_of a))
  pub left : (t : Tree) (r : List ℕ) (k : ℕ) (c : Option Tree) → old.failed ≡ false → Reads old.unread t r → old.level + depth t ≤ max_depth → named_variant names t ≡ Some (k, c)
      → MatchResult result (λ a. ((state_of a).variant ≡ k) × ContentLeft c r (state_of a)) IsOutOfMemory
  pub refused : IfErr result (λ e. old.failed ≡ false → RefusesName names old e)
  pub ends : EndsWith codes.EofParsingValue old result
  pub differs : DiffersWith begins_variant codes.ExpectedStringOrObject old result
  pub unprompted : Unprompted old result
  pub same_text : IfOk result (λ a. SameText old (state_of a).reader)
  pub before : AnswersFailed old result

-- v is what the content of the variant named at `from` converts to, and the value was read to its end
abbrev pub GivesContent : {V C : Type 0} → (V → C) → (Option Tree → Option C) → List (List ℕ) → State → ℕ → State → V → Type 0
GivesContent content convert names from k new v = (t : Tree) × (c : Option Tree) × TookValue from t new × (named_variant names t ≡ Some (k, c)) × (convert c ≡ Some (content v))

-- the content of a variant is read, and its closing brace
pub record ReadsVariant {V C : Type 0} (content : V → C) (convert : Option Tree → Option C) (allocation_free : Option Tree → Bool) (refuses : State → Error → State → Type 0) (old : EnumAccessState) (new : State) (result : Result V Error) : Type 0 where
  pub read : IfOk result (λ v. (names : List (List ℕ)) (from : State) → NameRead names from old → GivesContent content convert names from old.variant new v)
  pub left : (c : Option Tree) (r : List ℕ) (d : C) → ContentLeft c r old → convert c ≡ Some d → MatchResult result (λ v. content v ≡ d) IsOutOfMemory
  pub no_memory : (c : Option Tree) (r : List ℕ) (d : C) → ContentLeft c r old → convert c ≡ Some d → allocation_free c ≡ true → IsOk result
  pub refused : IfErr result (RefusesContent refuses old)
  pub unprompted : Unprompted old.reader result
  pub same_text : SameText old.reader new
  pub failed : FailsIfErr new result

-- ---- a content that is read through an access

-- a closing bracket is taken; a refusal is for good
pub record ClosesLast (b : BracketPair) (comma_due : Bool) (old new : State) (result : Result (Unit {0}) Error) : Type 0 where
  pub closes : ClosesAs b comma_due old new result
  pub same_text : SameText old new
  pub failed : FailsIfErr new result

-- why a content isn't closed, or then the variant's brace: a fault of the content's bracket without a position gets the brace's
pub data RefusesEnding (b : BracketPair) (comma_due : Bool) (brace : ℕ) (old : State) (e : Error) : Type 0 where
  not_ended : (own : Error) → RefusedBy (NotClosed b comma_due) old own → PositionedAt (StartsAfter old.input brace) own e → RefusesEnding b comma_due brace old e
  brace_open : (after : State) → Closed b comma_due old after → RefusedBy (NotClosed curly true) after e → RefusesEnding b comma_due brace old e

-- the bracket of a variant's content is taken, and then the variant's brace
pub record ClosesContent (b : BracketPair) (comma_due : Bool) (brace : ℕ) (old new : State) (result : Result (Unit {0}) Error) : Type 0 where
  pub closed : OnOk result ((after : State) × Closed b comma_due old after × Closed curly true after new)
  pub complete : (x r : List ℕ) → old.failed ≡ false → IsEnd b.closing comma_due old.unread x → IsBrace true x r → IsOk result
  pub refused : IfErr result (RefusesEnding b comma_due brace old)
  pub unprompted : Unprompted old result
  pub same_text : SameText old new
  pub failed : FailsIfErr new result

-- an array that is a variant's content is closed, and the variant's brace: the value that began before the brace is read
pub record ClosesTuple (brace : ℕ) (old : AccessState) (new : State) (result : Result (Unit {0}) Error) : Type 0 where
  pub bracket : ClosesContent square old.comma_due brace old.reader new result
  pub read : OnOk result ((from content : State) (u : List ℕ) (escape_free : Bool) (ts : Trees) → AtContent from u escape_free content → ElementsRead content ts old → TookValue from (object (member u escape_free (array ts) no_member)) new)
  pub left : (x r : List ℕ) → ElementsLeft no_more x old → IsBrace true x r → IsOk result

-- the same of an object
pub record ClosesStruct (brace : ℕ) (old : MapAccessState) (new : State) (result : Result (Unit {0}) Error) : Type 0 where
  pub bracket : ClosesContent curly old.at.comma_due brace old.at.reader new result
  pub read : OnOk result ((from content : State) (u : List ℕ) (escape_free : Bool) (ps : Members) → AtContent from u escape_free content → MembersRead content ps None old → TookValue from (object (member u escape_free (object ps) no_member)) new)
  pub left : (x r : List ℕ) → old.pending ≡ false → MembersLeft no_member x old → IsBrace true x r → IsOk result

-- the end of an access closes its own bracket and, in a variant's content, the variant's brace
pub record EndsArray (brace : Option ℕ) (old : AccessState) (new : State) (result : Result (Unit {0}) Error) : Type 0 where
  pub alone : brace ≡ None → ClosesArray old new result
  pub in_variant : (start : ℕ) → brace ≡ Some start → ClosesTuple start old new result

pub record EndsObject (brace : Option ℕ) (old : MapAccessState) (new : State) (result : Result (Unit {0}) Error) : Type 0 where
  pub alone : brace ≡ None → ClosesMap old new result
  pub in_variant : (start : ℕ) → brace ≡ Some start → ClosesStruct start old new result

-- the content of a variant is opened, which begins with this bracket
pub record OpensContent {A : Type 0} (b : BracketPair) (state_of : A → AccessState) (old : EnumAccessState) (result : Result A Error) : Type 0 where
  pub has_content : OnOk result (old.has_content ≡ true)
  pub opened : IfOk result (λ a. Opened b old.reader (state_of a).reader × ((state_of a).comma_due ≡ false))
  pub start : IfOk result (λ a. IsStart b old.reader.input (state_of a))
  pub complete : (r : List ℕ) → old.has_content ≡ true → old.reader.failed ≡ false → IsSign b.opening old.reader.unread r → old.reader.level < max_depth → IsOk result
  pub refused : IfErr result (RefusesContent (λ s e t. RefusedBy (NotOpened b s.level) s e) old)
  pub unprompted : Unprompted old.reader result

-- that bracket is taken, which begins after so many bytes; a refusal is for good
pub record TakesContentOpening (b : BracketPair) (old : EnumAccessState) (new : State) (result : Result ℕ Error) : Type 0 where
  pub opens : OpensContent b (λ start. record { reader = new; start = start; comma_due = false }) old result
  pub failed : GivesUpIfErr old.reader new result

-- an array: nothing of it was read, and if an array can be read, its elements are left
pub record OpensTuple {A : Type 0} (state_of : A → AccessState) (old : EnumAccessState) (result : Result A Error) : Type 0 where
  pub content : OpensContent square state_of old result
  pub same_text : IfOk result (λ a. SameText old.reader (state_of a).reader)
  pub read : IfOk result (λ a. ElementsRead old.reader no_more (state_of a))
  pub left : (ts : Trees) (r : List ℕ) → old.has_content ≡ true → old.reader.failed ≡ false → Reads old.reader.unread (array ts) r → old.reader.level + depth (array ts) ≤ max_depth → IsOkAnd result (λ a. ElementsLeft ts r (state_of a))

-- the same of an object
pub record OpensStruct {A : Type 0} (state_of : A → MapAccessState) (old : EnumAccessState) (result : Result A Error) : Type 0 where
  pub content : OpensContent curly (λ a. (state_of a).at) old result
  pub no_key : IfOk result (λ a. (state_of a).pending ≡ false)
  pub same_text : IfOk result (λ a. SameText old.reader (state_of a).at.reader)
  pub read : IfOk result (λ a. MembersRead old.reader no_member None (state_of a))
  pub left : (ps : Members) (r : List ℕ) → old.has_content ≡ true → old.reader.failed ≡ false → Reads old.reader.unread (object ps) r → old.reader.level + depth (object ps) ≤ max_depth → IsOkAnd result (λ a. MembersLeft ps r (state_of a))
