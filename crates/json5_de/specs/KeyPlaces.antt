-- Where the key of a member begins.
-- A promise rests on this.
use Rattle.std.specs.Prelude.{◌≡◌, ℕ, Bool, true, false, List, ◌++◌, length, Option, Some, Result, Ok, Err, IfOk, IfSome}
use Rattle.std.specs.Str.{encode_utf8_all}
use Rattle.json5_grammar.specs.Language.Blanks.{Solid}
use Rattle.json5_grammar.specs.Model.Collections.{ReadsKey}
use Rattle.json5_types.specs.declared.error.Error.{Error}
use Rattle.json5_de.specs.Keys.{KeyConversion}
use Rattle.json5_de.specs.Objects.{MapAccessState}
use Rattle.json5_de.specs.Fields.{IsOwnAtBracket}

-- a key with this name begins so many bytes after the start of the input, and this is unread after it
pub record KeyBegins (name : List ℕ) (start : ℕ) (input unread : List ℕ) : Type 0 where
  pub before : List ℕ
  pub here : List ℕ
  pub split : input ≡ before ++ here
  pub counted : start ≡ length (encode_utf8_all before)
  pub solid : Solid here
  pub text : List ℕ
  pub escape_free : Bool
  pub reads : ReadsKey here text escape_free unread
  pub named : encode_utf8_all text ≡ name

-- the same of a call that says whether there was a key
abbrev pub BeginsIfGiven : List ℕ → ℕ → List ℕ → List ℕ → Result Bool Error → Type 0
BeginsIfGiven name start input unread (Ok true) = KeyBegins name start input unread
BeginsIfGiven name start input unread (Ok false) = Unit {0}
BeginsIfGiven name start input unread (Err e) = Unit {0}

-- a key that converts to c begins so many bytes after the start of the input, and this is unread after it
pub record KeyBeginsAs {C : Type 0} (convert : KeyConversion C) (c : C) (start : ℕ) (input unread : List ℕ) : Type 0 where
  pub name : List ℕ
  pub begins : KeyBegins name start input unread
  pub converts : convert begins.text begins.escape_free ≡ Some c

-- the same of a call that returns the key, if there was one
abbrev pub ReadKeyBegins : {K C : Type 0} → (K → C) → KeyConversion C → ℕ → List ℕ → List ℕ → Result (Option K) Error → Type 0
ReadKeyBegins content convert start input unread result = IfOk result (λ o. IfSome o (λ k. KeyBeginsAs convert (content k) start input unread))

-- a custom fault at the key that was read last, which has this name, or memory ran out
pub record IsOwnAtKey (name : List ℕ) (old : MapAccessState) (e : Error) : Type 0 where
  pub start : ℕ
  pub begins : KeyBegins name start old.at.reader.input old.at.reader.unread
  pub fault : IsOwnAtBracket (record old.at { start = start }) e
