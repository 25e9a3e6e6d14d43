-- Strings and keys that were found, and what their text converts to.
-- Private.
use Rattle.std.specs.Prelude.{◌≡◌, ℕ, Bool, true, ◌⊎◌, List, ◌++◌, length, Option, Some, None, Result, IfOk, IfErr, OnOk, OnErr}
use Rattle.std.specs.Str.{all_scalars, encode_utf8_all}
use Rattle.json5_grammar.specs.declared.error_code.ErrorCode.{ErrorCode}
use Rattle.json5_grammar.specs.Language.Names.{Key}
use Rattle.json5_grammar.specs.Language.Strings.{Str}
use Rattle.json5_tokens.specs.declared.text_token.TextToken.{TextToken}
use Rattle.json5_types.specs.declared.cow_str.CowStr.{CowStr}
use Rattle.json5_types.specs.declared.error.Error.{Error}
use Rattle.json5_tokens.specs.Cursor.{IsOffset}
use Rattle.json5_types.specs.Errors.{LacksMemory}
use Rattle.json5_tokens.specs.TextTokens.{Spells, IsTextOf, IsCowOf}
use Rattle.json5_tokens.specs.TokenFaults.{FaultyKey, FaultyString}
use Rattle.json5_de.specs.declared.de.tokens.FoundText.{FoundText}
use Rattle.json5_de.specs.State.{State, GivesUp}
use Rattle.json5_de.specs.Convert.{as_text, every_text}
use Rattle.json5_de.specs.Faults.{RefusedByOrMemory}
use Rattle.json5_read.specs.EntryFaults.{FaultRelation}
use Rattle.json5_de.specs.DeserializeLaw.{CompletesFree, StaysFailed}
use Rattle.json5_de.specs.TokenKinds.{escape_free_text}
use Rattle.json5_de.specs.ReaderSteps.{PassedGap, TookText, IsMismatchOf}
use Rattle.json5_de.specs.Keys.{KeyConversion, CompletesAnyKey}

-- how a text is spelled: the spelling, what follows it, the text, and whether it is escape-free
abbrev pub Spelling : Type 1
Spelling = List ℕ → List ℕ → List ℕ → Bool → Type 0

abbrev pub IsString : Spelling
IsString s r u escape_free = Str s u escape_free

-- a spelling was taken to its token
abbrev pub TookToken : Spelling → State → State → TextToken → Type 0
TookToken Is old new t = (s u : List ℕ) × (escape_free : Bool) × TookText old s new × Is s new.unread u escape_free × Spells old.input u escape_free t

-- the bytes of the text that the token spells, which this reader took
abbrev pub SpellsText : State → TextToken → List ℕ → Type 0
SpellsText s t bytes = IsTextOf s.input t bytes

-- the same, borrowed where the token is escape-free
abbrev pub SpellsCow : State → TextToken → CowStr → Type 0
SpellsCow s t text = IsCowOf s.input t text

-- a spelling was taken after a gap, and so many bytes come before it
pub record TookFound (Is : Spelling) (old new : State) (found : FoundText) : Type 0 where
  pub between : State
  pub spelling : List ℕ
  pub text : List ℕ
  pub escape_free : Bool
  pub passed : PassedGap old between
  pub took : TookText between spelling new
  pub is_spelling : Is spelling new.unread text escape_free
  pub is_text : Spells new.input text escape_free found.token
  pub counted : (before : List ℕ) → between.input ≡ before ++ between.unread → found.start ≡ length (encode_utf8_all before)
  pub offset : IsOffset new.input found.start
  pub scalars : all_scalars text ≡ true

abbrev pub TookKeyAt : State → State → FoundText → Type 0
TookKeyAt old new found = TookFound Key old new found

abbrev pub TookStringAt : State → State → FoundText → Type 0
TookStringAt old new found = TookFound IsString old new found

-- a spelling is taken, blanks before it included
pub record Finds (Is : Spelling) (IsFault : FaultRelation) (Completes : State → Result FoundText Error → Type 0) (old new : State) (result : Result FoundText Error) : Type 0 where
  pub taken : IfOk result (TookFound Is old new)
  pub refused : IfErr result (RefusedByOrMemory IsFault old)
  pub complete : Completes old result
  pub failed : OnErr result (GivesUp old new)
  pub before : StaysFailed old new result

-- a key is; an escape-free one takes no memory
abbrev pub FindsKey : State → State → Result FoundText Error → Type 0
FindsKey old new result = Finds Key FaultyKey CompletesAnyKey old new result

-- a string is; an escape-free one takes no memory
abbrev pub FindsString : State → State → Result FoundText Error → Type 0
FindsString old new result = Finds IsString FaultyString (CompletesFree escape_free_text (as_text every_text)) old new result

-- P holds for the text that was found
abbrev pub OfFound : State → FoundText → (List ℕ → Bool → Type 0) → Type 0
OfFound s found P = (u : List ℕ) (escape_free : Bool) → Spells s.input u escape_free found.token → all_scalars u ≡ true → P u escape_free

-- the content is what the found text converts to, and nothing changes; a text that doesn't convert is refused at its start with this code,
-- None for a custom message; a text that converts is refused only if memory may run out
pub record JudgesText {V C : Type 0} (may_lack_memory : Bool) (of_other : Option ErrorCode) (f : KeyConversion C) (content : V → C) (found : FoundText) (old new : State) (result : Result V Error) : Type 0 where
  pub converts : IfOk result (λ v. OfFound old found (λ u escape_free. f u escape_free ≡ Some (content v)))
  pub kept : OnOk result (new ≡ old)
  pub other : IfErr result (λ e. ((may_lack_memory ≡ true) × LacksMemory e) ⊎ OfFound old found (λ u escape_free. f u escape_free ≡ None))
  pub refused : IfErr result (IsMismatchOf of_other old.input found.start)
  pub failed : OnErr result (GivesUp old new)
