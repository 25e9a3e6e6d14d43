-- The kinds of keys, and the law of a method that reads one.
-- A promise rests on this.
use Rattle.std.specs.Prelude.{◌≡◌, ◌≤◌, ◌↔◌, ℕ, Bool, List, [], ◌++◌, Option, Some, None, Result}
use Rattle.json5_grammar.specs.declared.error_code.ErrorCode.{ErrorCode}
use Rattle.json5_grammar.specs.declared.error_code.ErrorCode.TheVariants as codes
use Rattle.json5_grammar.specs.Language.Documents.{Doc, max_depth}
use Rattle.json5_grammar.specs.Language.Names.{Key}
use Rattle.json5_grammar.specs.Model.Reading.{Read, got, bad}
use Rattle.json5_grammar.specs.Model.ReadValues.{document}
use Rattle.json5_grammar.specs.Language.Trees.{Tree, depth}
use Rattle.json5_grammar.specs.Language.Values.{Reads}
use Rattle.json5_types.specs.declared.error.Error.{Error}
use Rattle.json5_tokens.specs.TokenFaults.{FaultyKey}
use Rattle.json5_de.specs.State.{State}
use Rattle.json5_de.specs.Convert.{every_text, if_escape_free, every_cow, one_character, index_of, digits_bytes}
use Rattle.json5_de.specs.ConvertLists.{if_some}
use Rattle.json5_de.specs.Faults.{RefusedByOrMemory, Trailing}
use Rattle.json5_read.specs.EntryFaults.{AfterBlanks}
use Rattle.json5_de.specs.Keys.{KeyConversion, every_key, ReadsOneKey}
use Rattle.json5_de.specs.TokenKinds.{Kind}

-- with which code the text of a key is refused, None for a custom message; the Bool is true if the key is escape-free
abbrev pub KeyFault : Type 1
KeyFault = List ℕ → Bool → Option ErrorCode → Type 0

-- a kind of key: what each text converts to, and how it is refused
pub record KeyKind (C : Type 0) : Type 1 where
  pub convert : KeyConversion C
  pub IsFault : KeyFault

-- no whole key is in front, or its text is refused, at the key's first character
pub data NotKey (IsFault : KeyFault) : List ℕ → Option ErrorCode → Option (List ℕ) → Type 0 where
  no_key : {x : List ℕ} {reason : Option ErrorCode} {place : Option (List ℕ)} → FaultyKey x reason place → NotKey IsFault x reason place
  other_key : {s u : List ℕ} {escape_free : Bool} {reason : Option ErrorCode} (r : List ℕ) → Key s r u escape_free → IsFault u escape_free reason → NotKey IsFault (s ++ r) reason (Some [])

-- refused with a fault of the kind, or memory ran out
abbrev pub RefusedAsKey : {C : Type 0} → KeyKind C → State → Error → State → Type 0
RefusedAsKey kind old e new = RefusedByOrMemory (NotKey kind.IsFault) old e

-- one key of the kind is read from the front
abbrev pub ReadsKeyAs : {V C : Type 0} → KeyKind C → (V → C) → State → State → Result V Error → Type 0
ReadsKeyAs kind content old new result = ReadsOneKey content kind.convert (RefusedAsKey kind) old new result

-- ---- texts

-- a text that doesn't convert is refused with this code, None for a custom message
abbrev pub not_converted : {C : Type 0} → Option ErrorCode → KeyConversion C → KeyFault
not_converted of_other f u escape_free reason = (reason ≡ of_other) × (f u escape_free ≡ None)

-- a text that converts, and the code of any other
abbrev pub coded_text_key : {C : Type 0} → Option ErrorCode → KeyConversion C → KeyKind C
coded_text_key of_other f = record { convert = f; IsFault = not_converted of_other f }

abbrev pub text_key : {C : Type 0} → KeyConversion C → KeyKind C
text_key = coded_text_key None

abbrev pub string_key : KeyKind (List ℕ)
string_key = text_key every_text

-- one character
abbrev pub char_key : KeyKind ℕ
char_key = text_key one_character

-- a text without an escape
abbrev pub escape_free_key : KeyKind (List ℕ)
escape_free_key = text_key if_escape_free

-- a text, and whether it is escape-free
abbrev pub cow_key : KeyKind (List ℕ × Bool)
cow_key = text_key every_cow

-- one of these names, by its first index among them
abbrev pub variant_key : List (List ℕ) → KeyKind ℕ
variant_key names = text_key (index_of names)

-- any key, of which nothing is kept
abbrev pub ignored_key : KeyKind (Unit {0})
ignored_key = text_key every_key

-- bytes, as a text of hexadecimal digits
abbrev pub bytes_key : KeyKind (List ℕ)
bytes_key = coded_text_key (Some codes.InvalidBytes) digits_bytes

-- ---- documents

abbrev pub converted : {C : Type 0} → (Tree → Option C) → Read Tree → Option C
converted convert (got t r) = convert t
converted convert (bad e p) = None

-- what a text converts to as a document, if its tree converts; `document_keys` says which texts do
abbrev pub document_of : {C : Type 0} → (Tree → Option C) → KeyConversion C
document_of convert u escape_free = converted convert (document max_depth u)

-- the text isn't a document whose tree converts: the value in front is refused, or what follows a value that converts
pub data NotDocument {C : Type 0} (kind : Kind C) : List ℕ → Bool → Option ErrorCode → Type 0 where
  no_value : {u : List ℕ} {escape_free : Bool} {reason : Option ErrorCode} {place : Option (List ℕ)} → AfterBlanks kind.IsFault u reason place → NotDocument kind u escape_free reason
  more_follows : {u r : List ℕ} {escape_free : Bool} {t : Tree} {c : C} {reason : Option ErrorCode} {place : Option (List ℕ)} → Reads u t r → depth t ≤ max_depth → kind.convert t ≡ Some c
      → AfterBlanks Trailing r reason place → NotDocument kind u escape_free reason

-- a text that is a document of the kind, with the blanks around it; its faults keep their codes
abbrev pub document_key : {C : Type 0} → Kind C → KeyKind C
document_key kind = record { convert = document_of kind.convert; IsFault = NotDocument kind }

-- such a text converts exactly when it is a document whose tree converts
abbrev pub ConvertsDocuments : {C : Type 0} → (Tree → Option C) → Type 0
ConvertsDocuments {C = C} convert = (u : List ℕ) (escape_free : Bool) (c : C) → (document_of convert u escape_free ≡ Some c) ↔ ((t : Tree) × Doc max_depth u t × (convert t ≡ Some c))

-- ---- options

-- some of what there is
abbrev pub some_of : {C : Type 0} → KeyConversion C → KeyConversion (Option C)
some_of f u escape_free = if_some Some (f u escape_free)
