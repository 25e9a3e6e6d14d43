-- What the short ways of strings and keys promise: one is taken with the ASCII blanks before it, or nothing is. All but one take
-- A promise rests on this.
-- those without an escape alone.
use Rattle.std.specs.Prelude.{◌≡◌, ℕ, Bool, true, List, ◌∷◌, ◌++◌, Option, MatchOption, String, string_bytes}
use Rattle.std.specs.Str.{encode_utf8_all}
use Rattle.json5_grammar.specs.Language.Blanks.{is_solid}
use Rattle.json5_grammar.specs.Model.Collections.{ReadsKey}
use Rattle.json5_grammar.specs.Language.Names.{Key}
use Rattle.json5_grammar.specs.Language.Strings.{Str}
use Rattle.json5_grammar.specs.Language.Trees.{text}
use Rattle.json5_grammar.specs.Language.Values.{Reads}
use Rattle.json5_tokens.specs.declared.short_texts.Span.{Span}
use Rattle.json5_tokens.specs.declared.short_texts.TextBounds.{TextBounds}
use Rattle.json5_tokens.specs.Cursor.{Cursor}
use Rattle.json5_tokens.specs.TextTokens.{IsSliceAt}
use Rattle.json5_tokens.specs.Outcome.{bytes_in}

-- x begins with blanks and a string with the text u, which holds no escape, and r is left
abbrev pub ReadsEscapeFreeString : List ℕ → List ℕ → List ℕ → Type 0
ReadsEscapeFreeString x u r = Reads x (text u true) r

-- the same of a key
abbrev pub ReadsEscapeFreeKey : List ℕ → List ℕ → List ℕ → Type 0
ReadsEscapeFreeKey x u r = ReadsKey x u true r

-- such a token was taken, and the input has its text at this span
pub record TookEscapeFree (IsRead : List ℕ → List ℕ → List ℕ → Type 0) (old new : Cursor) (span : Span) : Type 0 where
  pub spelled : List ℕ
  pub read : IsRead old.unread spelled new.unread
  pub stands : IsSliceAt old.input spelled span.start span.end
  pub same : new.input ≡ old.input

-- a string without an escape is taken, or nothing
abbrev pub TakesShortString : Cursor → Cursor → Option Span → Type 0
TakesShortString old new result = MatchOption result (new ≡ old) (λ span. TookEscapeFree ReadsEscapeFreeString old new span)

-- a string was taken, and this is an owned copy of its text
pub record TookShortOwned {A : Type 0} (old new : Cursor) (copy : String A) : Type 0 where
  pub spelled : List ℕ
  pub escape_free : Bool
  pub read : Reads old.unread (text spelled escape_free) new.unread
  pub same : new.input ≡ old.input
  pub bytes : string_bytes copy ≡ encode_utf8_all spelled

-- a string is taken, its text an owned copy, or nothing
abbrev pub TakesShortOwned : {A : Type 0} → Cursor → Cursor → Option (String A) → Type 0
TakesShortOwned old new result = MatchOption result (new ≡ old) (TookShortOwned old new)

-- a key without an escape is taken, or nothing
abbrev pub TakesShortKey : Cursor → Cursor → Option Span → Type 0
TakesShortKey old new result = MatchOption result (new ≡ old) (λ span. TookEscapeFree ReadsEscapeFreeKey old new span)

-- these are the bytes of the input at this span
abbrev pub IsTextAt : List ℕ → Span → List ℕ → Type 0
IsTextAt input span bytes = (u : List ℕ) → IsSliceAt input u span.start span.end → bytes ≡ encode_utf8_all u

-- ---- what is found in front

-- u is a part of x, and so many bytes are left where it begins and where it ends
pub record IsSliceBefore (x u : List ℕ) (from to : ℕ) : Type 0 where
  pub before : List ℕ
  pub rest : List ℕ
  pub split : x ≡ before ++ (u ++ rest)
  pub begins : from ≡ bytes_in (u ++ rest)
  pub ends : to ≡ bytes_in rest

-- the token s has the text u and holds no escape; r follows it
abbrev pub IsEscapeFreeString : List ℕ → List ℕ → List ℕ → Type 0
IsEscapeFreeString s u r = Str s u true

abbrev pub IsEscapeFreeKey : List ℕ → List ℕ → List ℕ → Type 0
IsEscapeFreeKey s u r = Key s r u true

-- such a token is in front of x, and so many bytes follow it
pub record FindsEscapeFree (IsToken : List ℕ → List ℕ → List ℕ → Type 0) (x : List ℕ) (found : TextBounds) : Type 0 where
  pub token : List ℕ
  pub spelled : List ℕ
  pub rest : List ℕ
  pub split : x ≡ token ++ rest
  pub is_token : IsToken token spelled rest
  pub place : IsSliceBefore x spelled found.from found.to
  pub counted : found.left ≡ bytes_in rest

-- x begins with a character that is neither blank nor begins a comment
abbrev pub HasSolid : List ℕ → Type 0
HasSolid x = (c : ℕ) × (r : List ℕ) × (x ≡ c ∷ r) × (is_solid c ≡ true)

-- such a token is in front, which begins with no blank
abbrev pub FindsFirst : (List ℕ → List ℕ → List ℕ → Type 0) → List ℕ → TextBounds → Type 0
FindsFirst IsToken x found = FindsEscapeFree IsToken x found × HasSolid x
