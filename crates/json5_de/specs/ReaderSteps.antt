-- The steps of a typed read.
-- A promise rests on this.
use Rattle.std.specs.Prelude.{◌≡◌, ◌≤◌, ◌==◌, ℕ, ℤ, Bool, true, false, List, [], ◌∷◌, ◌++◌, length, Option, Some, None, ◌⊎◌, String, string_bytes}
use Rattle.std.specs.Str.{all_scalars, chars, encode_utf8_all}
use Rattle.hex.specs.declared.error.FromHexError.{FromHexError}
use Rattle.hex.specs.declared.error.FromHexError.TheVariants as hex
use Rattle.json5_grammar.specs.Language.Characters.{NotBegun}
use Rattle.json5_grammar.specs.declared.error_code.ErrorCode.{ErrorCode}
use Rattle.json5_grammar.specs.declared.error_code.ErrorCode.TheVariants.{InvalidBytes}
use Rattle.json5_grammar.specs.Language.Numbers.{lengthens, Num, whole}
use Rattle.json5_grammar.specs.Language.Strings.{Str}
use Rattle.json5_types.specs.declared.cow_str.CowStr.{CowStr}
use Rattle.json5_types.specs.declared.number.Number as token
use Rattle.json5_types.specs.Cows.{cow_bytes, is_borrowed}
use Rattle.json5_types.specs.NumberMeanings.{number_of}
use Rattle.json5_grammar.specs.Faults.Positions.{position_after}
use Rattle.json5_types.specs.declared.error.Error.{Error}
use Rattle.json5_types.specs.Errors.{LacksMemory, error_position}
use Rattle.json5_tokens.specs.Cursor.{Says, Refused, IsOffset}
use Rattle.json5_grammar.specs.Language.Blanks.{Gap, Solid}
use Rattle.json5_grammar.specs.Language.Documents.{max_depth}
use Rattle.json5_grammar.specs.Language.Values.{Stops}
use Rattle.json5_de.specs.State.{State, OnlyRead, cursor_of}
use Rattle.json5_read.specs.EntryFaults.{FaultRelation}

-- a reader that hasn't failed passed over a gap
pub record PassedGap (old new : State) : Type 0 where
  pub live : old.failed ≡ false
  pub shallow : old.level ≤ max_depth
  pub gap : List ℕ
  pub split : old.unread ≡ gap ++ new.unread
  pub is_gap : Gap gap new.unread
  pub solid : Solid new.unread
  pub rest : OnlyRead old new

-- these characters were taken from the front
pub record TookText (old : State) (taken : List ℕ) (new : State) : Type 0 where
  pub split : old.unread ≡ taken ++ new.unread
  pub rest : OnlyRead old new

-- a number was taken as far as it goes
abbrev pub TookNumber : State → State → token.Number → Type 0
TookNumber old new n = (s : List ℕ) × TookText old s new × Num s (number_of n) × NotBegun (lengthens s) new.unread

-- a string was taken that spells this text
abbrev pub TookOwned : {A : Type 0} → State → State → String A → Type 0
TookOwned old new t = (s u : List ℕ) × (escape_free : Bool) × TookText old s new × Str s u escape_free × (string_bytes t ≡ encode_utf8_all u)

-- the same, borrowed if it is escape-free
abbrev pub TookCow : State → State → CowStr → Type 0
TookCow old new t = (s u : List ℕ) × (escape_free : Bool) × TookText old s new × Str s u escape_free × (is_borrowed t ≡ escape_free) × (cow_bytes t ≡ encode_utf8_all u)

-- the same, by the characters of its text
abbrev pub TookCharacters : {A : Type 0} → State → State → String A → Type 0
TookCharacters old new t = (s : List ℕ) × (escape_free : Bool) × TookText old s new × Str s (chars (string_bytes t)) escape_free

-- the token in front is refused with one of its faults, or memory ran out
abbrev pub RefusesToken : FaultRelation → State → Error → Type 0
RefusesToken IsFault old e = LacksMemory e ⊎ Refused IsFault (cursor_of old) e

-- this code, None for a custom message, at this offset
abbrev pub IsFaultAt : Option ErrorCode → List ℕ → ℕ → Error → Type 0
IsFaultAt reason input offset e =
    Says reason e × ((before rest : List ℕ) → input ≡ before ++ rest → offset ≡ length (encode_utf8_all before) → error_position e ≡ Some (position_after before))

-- the same, or memory ran out
abbrev pub IsMismatchOf : Option ErrorCode → List ℕ → ℕ → Error → Type 0
IsMismatchOf reason input offset e = LacksMemory e ⊎ IsFaultAt reason input offset e

-- a custom message at this offset, or memory ran out
abbrev pub IsMismatch : List ℕ → ℕ → Error → Type 0
IsMismatch = IsMismatchOf None

-- memory ran out in decoding, or the text spells no bytes: InvalidBytes at this offset
abbrev pub IsUndecoded : FromHexError → List ℕ → ℕ → Error → Type 0
IsUndecoded hex.OutOfMemory input offset e = LacksMemory e
IsUndecoded _ input offset e = IsFaultAt (Some InvalidBytes) input offset e

-- a whole number was taken after a gap, and so many bytes come before it
pub record WholeAt (old new : State) (start : ℕ) (z : ℤ) : Type 0 where
  pub between : State
  pub phrase : List ℕ
  pub passed : PassedGap old between
  pub took : TookText between phrase new
  pub is_number : Num phrase (whole z)
  pub stops : Stops phrase new.unread
  pub counted : (before : List ℕ) → between.input ≡ before ++ between.unread → start ≡ length (encode_utf8_all before)
  pub offset : IsOffset new.input start

-- the character is taken if it is next
pub record Eats (c : ℕ) (old new : State) (ate : Bool) : Type 0 where
  pub taken : ate ≡ true → TookText old (c ∷ []) new
  pub kept : (ate ≡ false) → (new ≡ old) × NotBegun (λ d. d == c) old.unread

-- so many bytes come before the unread part, which is the end of the input and scalar values
pub record IsCount (s : State) (count : ℕ) : Type 0 where
  pub offset : IsOffset s.input count
  pub counted : (before : List ℕ) → s.input ≡ before ++ s.unread → count ≡ length (encode_utf8_all before)
  pub suffix : (before : List ℕ) × (s.input ≡ before ++ s.unread)
  pub scalars : all_scalars s.unread ≡ true
