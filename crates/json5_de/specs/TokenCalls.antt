-- What the reader's calls for one token mean: it is taken, or refused with one of its faults, and then the reader has failed.
-- Private.
use Rattle.std.specs.Prelude.{◌≡◌, ℕ, Bool, true, false, List, ◌++◌, String, Result, IfOk, IfErr, OnOk, OnErr, IsOk}
use Rattle.json5_grammar.specs.declared.error_code.ErrorCode.{ErrorCode}
use Rattle.json5_grammar.specs.Language.Characters.{NotBegun}
use Rattle.json5_grammar.specs.Language.Names.{Key}
use Rattle.json5_grammar.specs.Language.Numbers.{Number, Num, lengthens}
use Rattle.json5_grammar.specs.Language.Strings.{Str}
use Rattle.json5_types.specs.declared.cow_str.CowStr.{CowStr}
use Rattle.json5_types.specs.declared.error.Error.{Error}
use Rattle.json5_tokens.specs.declared.text_token.TextToken.{TextToken}
use Rattle.json5_types.specs.declared.number.Number as token
use Rattle.json5_tokens.specs.Cursor.{Refused}
use Rattle.json5_types.specs.Errors.{LacksMemory}
use Rattle.json5_types.specs.NumberMeanings.{keeps_digits}
use Rattle.json5_tokens.specs.TokenFaults.{FaultyBlanks, FaultyWord, FaultyNumber, FaultyString, FaultyKey}
use Rattle.json5_de.specs.State.{State, GivesUp, cursor_of}
use Rattle.json5_read.specs.EntryFaults.{FaultRelation}
use Rattle.json5_de.specs.DeserializeLaw.{StaysFailed, Unprompted}
use Rattle.json5_de.specs.ReaderSteps.{PassedGap, TookText, TookNumber, TookOwned, TookCharacters, TookCow, RefusesToken}
use Rattle.json5_de.specs.FoundTexts.{TookToken, IsString}

-- blanks are passed over if no call was refused before
pub record PassesGap (old new : State) (result : Result (Unit {0}) Error) : Type 0 where
  pub passed : OnOk result (PassedGap old new)
  pub refused : IfErr result (λ e. old.failed ≡ false → Refused FaultyBlanks (cursor_of old) e)
  pub failed : OnErr result (GivesUp old new)
  pub before : StaysFailed old new result
  pub unprompted : Unprompted old result

-- the word is passed over
pub record PassesWord (w : List ℕ) (ends differs : ErrorCode) (old new : State) (result : Result (Unit {0}) Error) : Type 0 where
  pub taken : OnOk result (TookText old w new)
  pub refused : IfErr result (λ e. Refused (FaultyWord w ends differs) (cursor_of old) e)
  pub failed : OnErr result (GivesUp old new)

-- a string is taken, its text an owned copy
pub record TakesOwnString {A : Type 0} (old new : State) (result : Result (String A) Error) : Type 0 where
  pub taken : IfOk result (TookOwned old new)
  pub characters : IfOk result (TookCharacters old new)
  pub refused : IfErr result (RefusesToken FaultyString old)
  pub failed : OnErr result (GivesUp old new)

-- a kind of token: what is known of one that was taken, its faults, and where a call for one succeeds
pub record Token (V : Type 0) : Type 1 where
  pub Took : State → State → V → Type 0
  pub IsFault : FaultRelation
  pub Completes : List ℕ → Result V Error → Type 0

-- a token of the kind is taken
pub record Takes {V : Type 0} (kind : Token V) (old new : State) (result : Result V Error) : Type 0 where
  pub taken : IfOk result (λ v. kind.Took old new v)
  pub refused : IfErr result (RefusesToken kind.IsFault old)
  pub failed : OnErr result (GivesUp old new)
  pub complete : kind.Completes old.unread result

-- ---- the kinds

-- a number; memory is taken for digits that are kept
abbrev pub number_token : Token token.Number
number_token = record {
  Took = TookNumber;
  IsFault = FaultyNumber;
  Completes = λ x result. (s r : List ℕ) (n : Number) → x ≡ s ++ r → Num s n → NotBegun (lengthens s) r → keeps_digits n ≡ false → IsOk result;
}

-- an escape-free string takes no memory
abbrev pub CompletesEscapeFree : {V : Type 0} → List ℕ → Result V Error → Type 0
CompletesEscapeFree x result = (s u r : List ℕ) → x ≡ s ++ r → Str s u true → IsOk result

-- a string, its text borrowed if it is escape-free
abbrev pub string_token : Token CowStr
string_token = record { Took = TookCow; IsFault = FaultyString; Completes = CompletesEscapeFree }

-- a string, to its token
abbrev pub text_token : Token TextToken
text_token = record { Took = TookToken IsString; IsFault = FaultyString; Completes = CompletesEscapeFree }

-- a key is refused only if it has an escape and memory runs out
abbrev pub CompletesAKey : {V : Type 0} → List ℕ → Result V Error → Type 0
CompletesAKey x result = (s u r : List ℕ) (escape_free : Bool) → x ≡ s ++ r → Key s r u escape_free → IfErr result (λ e. LacksMemory e × (escape_free ≡ false))

-- a key
abbrev pub key_token : Token TextToken
key_token = record { Took = TookToken Key; IsFault = FaultyKey; Completes = CompletesAKey }
