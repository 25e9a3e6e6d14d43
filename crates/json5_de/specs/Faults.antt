-- What is refused where a value is expected.
-- A promise rests on this.
use Rattle.std.specs.Prelude.{◌≡◌, ℕ, Bool, true, false, if◌then◌else◌, ◌==◌, ◌⊎◌, List, [], ◌∷◌, ◌++◌, Option, Some, None, Result, IsErrAnd}
use Rattle.json5_grammar.specs.Language.Characters.{letter_f}
use Rattle.json5_grammar.specs.declared.error_code.ErrorCode.{ErrorCode}
use Rattle.json5_grammar.specs.declared.error_code.ErrorCode.TheVariants as codes
use Rattle.json5_grammar.specs.Language.Blanks.{Blanks, LastBlanks, is_solid}
use Rattle.json5_grammar.specs.Language.Numbers.{Number, Num}
use Rattle.json5_grammar.specs.Language.Strings.{Str}
use Rattle.json5_grammar.specs.Language.Values.{Stops, null_text, true_text, false_text}
use Rattle.json5_types.specs.declared.error.Error.{Error}
use Rattle.json5_types.specs.Errors.{LacksMemory, code, kind_of, error_position}
use Rattle.json5_tokens.specs.Cursor.{IsPositioned, Refused}
use Rattle.json5_tokens.specs.TokenFaults.{FaultyWord, FaultyNumber, FaultyString}
use Rattle.json5_read.specs.EntryFaults.{FaultRelation, AfterBlanks}
use Rattle.json5_de.specs.State.{State, cursor_of}

-- a number in front is faulty, or it is complete and isn't the type's: a custom message, at the number's start
pub data NotNumber {C : Type 0} (convert : Number → Option C) : List ℕ → Option ErrorCode → Option (List ℕ) → Type 0 where
  faulty_number : {x : List ℕ} {reason : Option ErrorCode} {place : Option (List ℕ)} → FaultyNumber x reason place → NotNumber convert x reason place
  other_number : {s : List ℕ} {n : Number} (r : List ℕ) → Num s n → Stops s r → convert n ≡ None → NotNumber convert (s ++ r) None (Some [])

-- a string in front is faulty, or it is complete and isn't the type's: this code, None for a custom message, at the quote
pub data NotText {C : Type 0} (other : Option ErrorCode) (convert : List ℕ → Bool → Option C) : List ℕ → Option ErrorCode → Option (List ℕ) → Type 0 where
  faulty_text : {x : List ℕ} {reason : Option ErrorCode} {place : Option (List ℕ)} → FaultyString x reason place → NotText other convert x reason place
  other_text : {s u : List ℕ} {escape_free : Bool} (r : List ℕ) → Str s u escape_free → convert u escape_free ≡ None → NotText other convert (s ++ r) other (Some [])

-- a reader that hasn't failed refuses with a fault of the blanks, or with a fault that IsFault allows for what follows them; the error has that fault's position
abbrev pub RefusedBy : FaultRelation → State → Error → Type 0
RefusedBy IsFault old e = old.failed ≡ false → Refused (AfterBlanks IsFault) (cursor_of old) e

-- the same, or memory ran out in this way
abbrev pub RefusedByOr : (Error → Type 0) → FaultRelation → State → Error → Type 0
RefusedByOr Lacks IsFault old e = Lacks e ⊎ RefusedBy IsFault old e

-- the same, or memory ran out, without a position
abbrev pub RefusedByOrMemory : FaultRelation → State → Error → Type 0
RefusedByOrMemory = RefusedByOr LacksMemory

abbrev pub FaultyNull : FaultRelation
FaultyNull = FaultyWord null_text codes.EofParsingNull codes.ExpectedNull

abbrev pub begins_with : ℕ → List ℕ → Bool
begins_with c [] = false
begins_with c (d ∷ s) = d == c

-- after an `f` the word is `false`, else `true`
abbrev pub FaultyBool : FaultRelation
FaultyBool x = FaultyWord (if begins_with letter_f x then false_text else true_text) codes.EofParsingBool codes.ExpectedBool x

-- a character where the end is expected: TrailingCharacters at it
pub data Trailing : List ℕ → Option ErrorCode → Option (List ℕ) → Type 0 where
  trailing : (c : ℕ) (r : List ℕ) → Trailing (c ∷ r) (Some codes.TrailingCharacters) (Some [])

-- this code, without a position
abbrev pub IsPositionless : ErrorCode → Error → Type 0
IsPositionless c e = (kind_of e ≡ code c) × (error_position e ≡ None)

-- this code, at the position after w
abbrev pub IsAfter : ErrorCode → State → List ℕ → Error → Type 0
IsAfter c old w e = (kind_of e ≡ code c) × IsPositioned (cursor_of old) (Some w) e

-- nothing but blanks is unread
abbrev pub AtEnd : State → Type 0
AtEnd old = (old.failed ≡ false) × LastBlanks old.unread

-- a character follows the blanks w that begins nothing of what is expected
pub record AtOther (begins : ℕ → Bool) (old : State) (w : List ℕ) : Type 0 where
  pub live : old.failed ≡ false
  pub blank : Blanks w
  pub char : ℕ
  pub more : List ℕ
  pub split : old.unread ≡ w ++ char ∷ more
  pub solid : is_solid char ≡ true
  pub other : begins char ≡ false

-- the code at the end
abbrev pub EndsWith : {V : Type 0} → ErrorCode → State → Result V Error → Type 0
EndsWith ends old result = AtEnd old → IsErrAnd result (IsPositionless ends)

-- the same, or memory ran out in this way
abbrev pub EndsWithOr : {V : Type 0} → (Error → Type 0) → ErrorCode → State → Result V Error → Type 0
EndsWithOr Lacks ends old result = AtEnd old → IsErrAnd result (λ e. Lacks e ⊎ IsPositionless ends e)

abbrev pub EndsWithOrMemory : {V : Type 0} → ErrorCode → State → Result V Error → Type 0
EndsWithOrMemory ends old result = EndsWithOr LacksMemory ends old result

-- the code at a character that begins nothing of what is expected
abbrev pub DiffersWith : {V : Type 0} → (ℕ → Bool) → ErrorCode → State → Result V Error → Type 0
DiffersWith begins differs old result = (w : List ℕ) → AtOther begins old w → IsErrAnd result (IsAfter differs old w)

-- the same, or memory ran out in this way
abbrev pub DiffersWithOr : {V : Type 0} → (Error → Type 0) → (ℕ → Bool) → ErrorCode → State → Result V Error → Type 0
DiffersWithOr Lacks begins differs old result = (w : List ℕ) → AtOther begins old w → IsErrAnd result (λ e. Lacks e ⊎ IsAfter differs old w e)

abbrev pub DiffersWithOrMemory : {V : Type 0} → (ℕ → Bool) → ErrorCode → State → Result V Error → Type 0
DiffersWithOrMemory begins differs old result = DiffersWithOr LacksMemory begins differs old result
