-- What each call of the scanner promises: a token in front is taken whole, or refused with one of its faults, and then nothing is taken.
-- A promise rests on this.
use Rattle.std.specs.Prelude.{◌≡◌, ℕ, Bool, true, false, List, ◌∷◌, ◌++◌, ◌⊎◌, ℤ, Option, Result, String, string_bytes, IfOk, IfErr, OnOk, OnErr, IsOk}
use Rattle.std.specs.Str.{encode_utf8_all}
use Rattle.json5_grammar.specs.declared.error_code.ErrorCode.{ErrorCode}
use Rattle.json5_grammar.specs.Language.Characters.{NotBegun}
use Rattle.json5_grammar.specs.Language.Blanks.{Gap, Solid}
use Rattle.json5_grammar.specs.Language.Names.{Ident, Key, goes_on_name}
use Rattle.json5_grammar.specs.Language.Numbers as numbers
use Rattle.json5_grammar.specs.Language.Numbers.{Num, lengthens}
use Rattle.json5_grammar.specs.Language.Strings.{Str}
use Rattle.json5_types.specs.declared.cow_str.CowStr.{CowStr}
use Rattle.json5_types.specs.declared.error.Error.{Error}
use Rattle.json5_tokens.specs.declared.text_token.TextToken.{TextToken}
use Rattle.json5_types.specs.declared.number.Number.{Number}
use Rattle.json5_types.specs.Cows.{cow_bytes, is_borrowed}
use Rattle.json5_tokens.specs.Cursor.{Cursor, Refused, Took}
use Rattle.json5_types.specs.Errors.{LacksMemory}
use Rattle.json5_tokens.specs.TextTokens.{Spells}
use Rattle.json5_types.specs.NumberMeanings.{number_of, keeps_digits, whole_in}
use Rattle.json5_tokens.specs.TokenFaults.{FaultyBlanks, FaultyWord, FaultyNumber, FaultyString, FaultyName, FaultyKey}

-- blanks are passed over, up to what is no blank
pub record PassesBlanks (old new : Cursor) (result : Result (Unit {0}) Error) : Type 0 where
  pub passed : OnOk result ((w : List ℕ) × Took old w new × Gap w new.unread × Solid new.unread)
  pub refused : IfErr result (λ e. Refused FaultyBlanks old e)
  pub kept : OnErr result (new ≡ old)

-- the word is taken
pub record TakesWord (w : List ℕ) (ends differs : ErrorCode) (old new : Cursor) (result : Result (Unit {0}) Error) : Type 0 where
  pub taken : OnOk result (Took old w new)
  pub refused : IfErr result (λ e. Refused (FaultyWord w ends differs) old e)
  pub kept : OnErr result (new ≡ old)

-- a number is taken; it takes memory for digits that are kept, or if it is refused
pub record TakesNumber (old new : Cursor) (result : Result Number Error) : Type 0 where
  pub taken : IfOk result (λ n. (s : List ℕ) × Took old s new × Num s (number_of n) × NotBegun (lengthens s) new.unread)
  pub refused : IfErr result (λ e. LacksMemory e ⊎ Refused FaultyNumber old e)
  pub kept : OnErr result (new ≡ old)
  pub memory : (s r : List ℕ) (n : numbers.Number) → old.unread ≡ s ++ r → Num s n → NotBegun (lengthens s) r → keeps_digits n ≡ false → IsOk result

-- a string was taken, and this is an owned copy of its text
abbrev pub TookOwned : {A : Type 0} → Cursor → Cursor → String A → Type 0
TookOwned old new t = (s u : List ℕ) × (escape_free : Bool) × Took old s new × Str s u escape_free × (string_bytes t ≡ encode_utf8_all u)

-- a string is taken, its text an owned copy
pub record TakesOwned {A : Type 0} (old new : Cursor) (result : Result (String A) Error) : Type 0 where
  pub taken : IfOk result (TookOwned old new)
  pub refused : IfErr result (λ e. LacksMemory e ⊎ Refused FaultyString old e)
  pub kept : OnErr result (new ≡ old)

-- a string with this text is taken; it takes memory only if it isn't escape-free or is refused
pub record TakesText {T : Type 0} (IsText : T → List ℕ → Bool → Type 0) (old new : Cursor) (result : Result T Error) : Type 0 where
  pub taken : IfOk result (λ t. (s u : List ℕ) × (escape_free : Bool) × Took old s new × Str s u escape_free × IsText t u escape_free)
  pub refused : IfErr result (λ e. LacksMemory e ⊎ Refused FaultyString old e)
  pub kept : OnErr result (new ≡ old)
  pub escape_free : (s u r : List ℕ) → old.unread ≡ s ++ r → Str s u true → IsOk result

-- a string is taken, its text borrowed exactly when it is escape-free
abbrev pub TakesString : Cursor → Cursor → Result CowStr Error → Type 0
TakesString old new result = TakesText (λ t u escape_free. (is_borrowed t ≡ escape_free) × (cow_bytes t ≡ encode_utf8_all u)) old new result

-- a string is taken to its token
abbrev pub TakesStringToken : Cursor → Cursor → Result TextToken Error → Type 0
TakesStringToken old new result = TakesText (λ t u escape_free. Spells old.input u escape_free t) old new result

-- a name is taken as far as it goes, its text borrowed exactly when it is escape-free; otherwise it takes memory, and so does a refusal
pub record TakesName (old new : Cursor) (result : Result CowStr Error) : Type 0 where
  pub taken : IfOk result (λ t. (s u : List ℕ) × (escape_free : Bool) × Took old s new × Ident s u escape_free × (is_borrowed t ≡ escape_free) × (cow_bytes t ≡ encode_utf8_all u))
  pub stops : OnOk result ((c : ℕ) × (r : List ℕ) × (new.unread ≡ c ∷ r) × (goes_on_name c ≡ false))
  pub refused : IfErr result (λ e. LacksMemory e ⊎ Refused FaultyName old e)
  pub kept : OnErr result (new ≡ old)
  pub escape_free : (s u r : List ℕ) (c : ℕ) → old.unread ≡ s ++ c ∷ r → Ident s u true → goes_on_name c ≡ false → IsOk result

-- a key is taken; it takes memory if its text isn't escape-free, or if it is refused
pub record TakesKey (old new : Cursor) (result : Result TextToken Error) : Type 0 where
  pub taken : IfOk result (λ k. (s u : List ℕ) × (escape_free : Bool) × Took old s new × Key s new.unread u escape_free × Spells old.input u escape_free k)
  pub refused : IfErr result (λ e. LacksMemory e ⊎ Refused FaultyKey old e)
  pub kept : OnErr result (new ≡ old)
  pub complete : (s u r : List ℕ) (escape_free : Bool) → old.unread ≡ s ++ r → Key s r u escape_free → IfErr result LacksMemory
  pub escape_free : (s u r : List ℕ) → old.unread ≡ s ++ r → Key s r u true → IsOk result

-- ---- tokens that are passed over; memory is taken at a refusal alone

-- a string is passed over
pub record PassesString (old new : Cursor) (result : Result (Unit {0}) Error) : Type 0 where
  pub taken : OnOk result ((s u : List ℕ) × (escape_free : Bool) × Took old s new × Str s u escape_free)
  pub refused : IfErr result (λ e. LacksMemory e ⊎ Refused FaultyString old e)
  pub kept : OnErr result (new ≡ old)
  pub memory : (s u r : List ℕ) (escape_free : Bool) → old.unread ≡ s ++ r → Str s u escape_free → IsOk result

-- a name is passed over as far as it goes
pub record PassesName (old new : Cursor) (result : Result (Unit {0}) Error) : Type 0 where
  pub taken : OnOk result ((s u : List ℕ) × (escape_free : Bool) × Took old s new × Ident s u escape_free)
  pub stops : OnOk result ((c : ℕ) × (r : List ℕ) × (new.unread ≡ c ∷ r) × (goes_on_name c ≡ false))
  pub refused : IfErr result (λ e. LacksMemory e ⊎ Refused FaultyName old e)
  pub kept : OnErr result (new ≡ old)
  pub memory : (s u r : List ℕ) (c : ℕ) (escape_free : Bool) → old.unread ≡ s ++ c ∷ r → Ident s u escape_free → goes_on_name c ≡ false → IsOk result

-- a number is passed over, and returned if it is whole
pub record PassesNumber (old new : Cursor) (result : Result (Option ℤ) Error) : Type 0 where
  pub taken : IfOk result (λ found. (s : List ℕ) × (n : numbers.Number) × Took old s new × Num s n × NotBegun (lengthens s) new.unread × (found ≡ whole_in n))
  pub refused : IfErr result (λ e. LacksMemory e ⊎ Refused FaultyNumber old e)
  pub kept : OnErr result (new ≡ old)
  pub memory : (s r : List ℕ) (n : numbers.Number) → old.unread ≡ s ++ r → Num s n → NotBegun (lengthens s) r → IsOk result
