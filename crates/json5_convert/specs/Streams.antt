-- Documents one after another in one text, or from one reader.
-- A promise rests on this.
use Rattle.std.specs.Prelude.{◌≡◌, ◌↔◌, ◌⊎◌, ◌<◌, ◌≤◌, ℕ, Bool, true, false, List, [], ◌++◌, drop, slice_get, is_some, IfSome, ⊤, Option, None, Some, option_map}
use Rattle.std.specs.Str.{IsCharBoundary, chars}
use Rattle.json5_grammar.specs.declared.error_code.ErrorCode.{ErrorCode}
use Rattle.json5_grammar.specs.declared.error_code.ErrorCode.TheVariants.{EofParsingArray, EofParsingBool, EofParsingComment, EofParsingEscapeSequence, EofParsingIdentifier, EofParsingNull, EofParsingNumber, EofParsingObject, EofParsingString, EofParsingValue, Failed}
use Rattle.json5_grammar.specs.declared.position.Position.{Position}
use Rattle.json5_grammar.specs.Faults.Positions.{line_of}
use Rattle.json5_grammar.specs.Faults.Refusals.{BlamesValue}
use Rattle.json5_grammar.specs.Language.Blanks.{Gap, LastBlanks}
use Rattle.json5_grammar.specs.Language.Documents.{max_depth}
use Rattle.json5_grammar.specs.Language.Trees.{Tree, depth}
use Rattle.json5_grammar.specs.Language.Values.{Stops, Val}
use Rattle.json5_types.specs.declared.error.Error.{Error}
use Rattle.json5_types.specs.declared.value.Value.{Value}
use Rattle.json5_types.specs.Errors.{code, error_position, kind_of, known_code}
use Rattle.json5_types.specs.ValueKinds.{number_in}
use Rattle.json5_types.specs.ValueMeanings.{value_of}
use Rattle.json5_tokens.specs.Cursor.{Cursor, IsOutOfMemory, Refused, Says}
use Rattle.json5_read.specs.TreeMeanings.{datum_of}
use Rattle.json5_convert.specs.Sources.{StopsReading}

-- the text x begins with the next document, and y comes after its value
pub record ReadsFront (x y : List ℕ) (v : Value) : Type 0 where
  pub blanks : List ℕ
  pub phrase : List ℕ
  pub split : x ≡ blanks ++ (phrase ++ y)
  pub blank : Gap blanks (phrase ++ y)
  pub tree : Tree
  pub value : Val phrase tree
  pub stops : Stops phrase y
  pub shallow : depth tree ≤ max_depth
  pub means : value_of v ≡ datum_of tree

-- the next document is read, or no more than blanks are left
abbrev pub TakesFront : (x y : List ℕ) → Option Value → Type 0
TakesFront x y None = LastBlanks x × (y ≡ [])
TakesFront x y (Some v) = ReadsFront x y v

-- the value in front of x has a fault of this code at this position
abbrev pub FaultyFront : (x : List ℕ) → Option ErrorCode → Option (List ℕ) → Type 0
FaultyFront x reason place = BlamesValue max_depth x reason place × (LastBlanks x → ⊥)

-- an earlier call was refused
abbrev pub SaysFailed : Error → Type 0
SaysFailed e = kind_of e ≡ code Failed

-- what is told from the first refusal on: first a fault, and then that a call was refused
abbrev pub FailsFrom : (old new : Bool) → (Error → Type 0) → Error → Type 0
FailsFrom old new Fault e = (new ≡ true) × (SaysFailed e ↔ (old ≡ true)) × (old ≡ false → Fault e)

-- ---- of a text

-- what contracts see of it: how far it was read, and whether a call was refused
pub record Stream : Type 0 where
  pub cursor : Cursor
  pub has_failed : Bool

abbrev pub IsAtStart : (text : List ℕ) → Stream → Type 0
IsAtStart text s = (s.cursor ≡ record { input = chars text; unread = chars text }) × (s.has_failed ≡ false)

-- the front of what is unread is taken
abbrev pub TakesValue : (old new : Cursor) → Option Value → Type 0
TakesValue old new result = TakesFront old.unread new.unread result × (new.input ≡ old.input)

-- the same, where no call was refused
abbrev pub TakesNext : (old new : Stream) → Option Value → Type 0
TakesNext old new result = (old.has_failed ≡ false) × (new.has_failed ≡ false) × TakesValue old.cursor new.cursor result

-- the next document has the fault that is told, or memory ran out
abbrev pub RefusesNext : Cursor → Error → Type 0
RefusesNext s e = IsOutOfMemory e ⊎ Refused FaultyFront s e

-- the same, where no call was refused
abbrev pub Fails : (old new : Stream) → Error → Type 0
Fails old new = FailsFrom old.has_failed new.has_failed (RefusesNext old.cursor)

-- ---- from a reader

-- the characters that are to be read, where the reader's bytes are known, and whether a call was refused
pub record KnownStream : Type 0 where
  pub unread : Option (List ℕ)
  pub has_failed : Bool

abbrev pub BeginsStream : (known : Option (List ℕ)) → KnownStream → Type 0
BeginsStream known s = (s.unread ≡ option_map chars known) × (s.has_failed ≡ false)

-- the front of what is to be read is taken, where it is known
abbrev pub TakesKnown : (old new : Option (List ℕ)) → Option Value → Type 0
TakesKnown None new result = ⊤
TakesKnown (Some x) None result = ⊥
TakesKnown (Some x) (Some y) result = TakesFront x y result

-- the same, where no call was refused
abbrev pub TakesNextOf : (old new : KnownStream) → Option Value → Type 0
TakesNextOf old new result = (old.has_failed ≡ false) × (new.has_failed ≡ false) × TakesKnown old.unread new.unread result

-- the value in front of x has the fault that is told, wherever that is said to be
abbrev pub IsFaultOf : List ℕ → Error → Type 0
IsFaultOf x e = (reason : Option ErrorCode) × (place : Option (List ℕ)) × FaultyFront x reason place × Says reason e

-- the next document has the fault that is told, where it is known, or reading was stopped
pub data RefusesKnown (known : Option (List ℕ)) (e : Error) : Type 0 where
  stopped : StopsReading e → RefusesKnown known e
  faulty : IfSome known (λ x. IsFaultOf x e) → RefusesKnown known e

-- the same, where no call was refused
abbrev pub FailsOf : (old new : KnownStream) → Error → Type 0
FailsOf old new = FailsFrom old.has_failed new.has_failed (RefusesKnown old.unread)

-- ---- of what was read of it

-- a document was read whole, with y behind it: what follows y can't change it
pub data IsSettled (y : List ℕ) : Option Value → Type 0 where
  goes_on : {result : Option Value} (c : ℕ) → slice_get y 0 ≡ Some c → IsSettled y result
  ends_itself : {v : Value} → is_some (number_in (value_of v)) ≡ false → IsSettled y (Some v)

-- so many bytes of the text are taken, whatever comes behind the text; nothing does if it is whole
pub record Decides (text : List ℕ) (is_whole : Bool) (taken : Option Value × ℕ) : Type 0 where
  pub between : IsCharBoundary text taken.1
  pub takes : (behind : List ℕ) → (is_whole ≡ true → behind ≡ []) → TakesFront (chars text ++ behind) (chars (drop taken.1 text) ++ behind) taken.0

-- the text ends too early
abbrev pub is_of_end : Option ErrorCode → Bool
is_of_end (Some EofParsingArray) = true
is_of_end (Some EofParsingBool) = true
is_of_end (Some EofParsingComment) = true
is_of_end (Some EofParsingEscapeSequence) = true
is_of_end (Some EofParsingIdentifier) = true
is_of_end (Some EofParsingNull) = true
is_of_end (Some EofParsingNumber) = true
is_of_end (Some EofParsingObject) = true
is_of_end (Some EofParsingString) = true
is_of_end (Some EofParsingValue) = true
is_of_end _ = false

-- the fault is above the last line of x, and isn't that x ends
pub record IsLasting (x : List ℕ) (e : Error) : Type 0 where
  pub no_end : is_of_end (known_code (kind_of e)) ≡ false
  pub there : Position
  pub place : error_position e ≡ Some there
  pub above : there.line < line_of x

-- the value in front of the text has this fault, whatever comes behind the text; or memory ran out
abbrev pub StaysFaulty : (text : List ℕ) → Bool → Error → Type 0
StaysFaulty text is_whole e = IsOutOfMemory e ⊎ ((behind : List ℕ) → (is_whole ≡ true → behind ≡ []) → IsFaultOf (chars text ++ behind) e)
