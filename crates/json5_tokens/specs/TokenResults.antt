-- What functions below the scanner return: what reading on lists gives, or a refusal with its fault. Private clauses and proofs cite it.
-- Private.
use Rattle.std.specs.Prelude.{◌≡◌, ℕ, Bool, true, false, List, ◌++◌, ℤ, Option, Result, Ok, Err, String, string_bytes}
use denote.Ref.{Bor}
use Rattle.std.specs.Str.{IsUtf8, chars, encode_utf8_all}
use Rattle.json5_grammar.specs.Language.Numbers.{Number}
use Rattle.json5_grammar.specs.Model.Reading.{Read, got}
use Rattle.json5_types.specs.declared.cow_str.CowStr.{CowStr}
use Rattle.json5_tokens.specs.declared.numbers.slices.Scanned.{Scanned}
use Rattle.json5_tokens.specs.declared.refusal.Refusal.{Refusal}
use Rattle.json5_tokens.specs.declared.refusal.Refusal.TheVariants as refusal
use Rattle.json5_types.specs.Cows.{cow_bytes, is_borrowed}
use Rattle.json5_tokens.specs.NumberParts.{scanned_of}
use Rattle.json5_types.specs.NumberMeanings.{whole_in}
use Rattle.json5_tokens.specs.Outcome.{outcome}
use Rattle.json5_tokens.specs.RefusalOutcomes.{Refuses, WantsForDigits}
use Rattle.json5_tokens.specs.Scan.{HasCode, HasFault}

-- reading gives this value and leaves this rest
pub record GivesValue {V : Type 0} (reading : Read V) (value : V) (rest : List ℕ) : Type 0 where
  pub read : reading ≡ got value (chars rest)
  pub text : IsUtf8 rest

-- ---- values

-- the fault, and not that memory ran out
pub record RefusesByFault {V : Type 0} (e : Refusal) (reading : Read V) : Type 0 where
  pub refused : Refuses e (outcome reading)
  pub known : HasFault e

-- the value in front, seen by the view, and what follows it; or the fault
abbrev pub AnswersAs : {A V : Type 0} → (A → V) → Read V → Result (A × Bor (List ℕ)) Refusal → Type 0
AnswersAs view reading (Ok p) = GivesValue reading (view p.0) p.1.now
AnswersAs view reading (Err e) = RefusesByFault e reading

abbrev pub ReturnsReading : {A : Type 0} → Read A → Result (A × Bor (List ℕ)) Refusal → Type 0
ReturnsReading reading result = AnswersAs (λ value. value) reading result

-- ---- what is passed over

-- the fault, which has a code
pub record RefusesByCode {V : Type 0} (e : Refusal) (reading : Read V) : Type 0 where
  pub refused : Refuses e (outcome reading)
  pub known : HasCode e

-- what follows it; or the fault
abbrev pub Skips : Read (Unit {0}) → Result (Bor (List ℕ)) Refusal → Type 0
Skips reading (Ok rest) = GivesValue reading tt rest.now
Skips reading (Err e) = RefusesByCode e reading

-- reading gives some value and leaves this rest
pub record GivesRest {V : Type 0} (reading : Read V) (rest : List ℕ) : Type 0 where
  pub value : V
  pub read : reading ≡ got value (chars rest)
  pub text : IsUtf8 rest

-- what follows the value in front; or the fault
abbrev pub Passes : {V : Type 0} → Read V → Result (Bor (List ℕ)) Refusal → Type 0
Passes reading (Ok rest) = GivesRest reading rest.now
Passes reading (Err e) = RefusesByFault e reading

-- ---- numbers

-- the fault; memory is taken for digits alone
pub record RefusesNumber (e : Refusal) (reading : Read Number) : Type 0 where
  pub refused : Refuses e (outcome reading)
  pub memory : WantsForDigits e reading

-- the number in front, seen by the view, and what follows it; or the fault
abbrev pub AnswersNumber : {A : Type 0} → (A → Number) → Read Number → Result (A × Bor (List ℕ)) Refusal → Type 0
AnswersNumber view reading (Ok p) = GivesValue reading (view p.0) p.1.now
AnswersNumber view reading (Err e) = RefusesNumber e reading

-- reading gives this number and leaves the rest; or the fault
abbrev pub JudgesNumber : Read Number → List ℕ → Result Scanned Refusal → Type 0
JudgesNumber reading rest (Ok number) = reading ≡ got (scanned_of number) rest
JudgesNumber reading rest (Err e) = RefusesByFault e reading

-- reading gives a number, of which this is the whole one if it is whole, and leaves this rest
pub record GivesWhole (reading : Read Number) (found : Option ℤ) (rest : List ℕ) : Type 0 where
  pub number : Number
  pub read : reading ≡ got number (chars rest)
  pub same : found ≡ whole_in number
  pub text : IsUtf8 rest

-- the number in front if it is whole, and what follows the number; or the fault
abbrev pub AnswersWhole : Read Number → Result (Option ℤ × Bor (List ℕ)) Refusal → Type 0
AnswersWhole reading (Ok p) = GivesWhole reading p.0 p.1.now
AnswersWhole reading (Err e) = RefusesByFault e reading

-- ---- texts

-- reading gives the text of this value, and leaves this rest
pub record GivesText {T : Type 0} (IsText : T → List ℕ → Bool → Type 0) (reading : Read (List ℕ × Bool)) (value : T) (rest : List ℕ) : Type 0 where
  pub spelled : List ℕ
  pub escape_free : Bool
  pub read : reading ≡ got (spelled, escape_free) (chars rest)
  pub is_text : IsText value spelled escape_free
  pub text : IsUtf8 rest

-- the text, borrowed exactly when it is escape-free
pub record IsCow (value : CowStr) (spelled : List ℕ) (escape_free : Bool) : Type 0 where
  pub borrowed : is_borrowed value ≡ escape_free
  pub bytes : cow_bytes value ≡ encode_utf8_all spelled

abbrev pub IsOwned : {A : Type 0} → String A → List ℕ → Bool → Type 0
IsOwned value spelled escape_free = string_bytes value ≡ encode_utf8_all spelled

-- the run, and behind it what is spelled
abbrev pub IsOwnedBehind : {A : Type 0} → List ℕ → String A → List ℕ → Bool → Type 0
IsOwnedBehind run value spelled escape_free = string_bytes value ≡ run ++ encode_utf8_all spelled

-- an escape-free text takes no memory that could run out
abbrev pub SparesEscapeFree : Refusal → Read (List ℕ × Bool) → Type 0
SparesEscapeFree e reading = e ≡ refusal.OutOfMemory → (spelled rest : List ℕ) → reading ≡ got (spelled, true) rest → ⊥

pub record RefusesText (e : Refusal) (reading : Read (List ℕ × Bool)) : Type 0 where
  pub refused : Refuses e (outcome reading)
  pub memory : SparesEscapeFree e reading

-- the text in front, borrowed exactly when it is escape-free, and what follows it; or the fault
abbrev pub AnswersCow : Read (List ℕ × Bool) → Result (CowStr × Bor (List ℕ)) Refusal → Type 0
AnswersCow reading (Ok p) = GivesText IsCow reading p.0 p.1.now
AnswersCow reading (Err e) = RefusesText e reading

-- the same as an owned copy
abbrev pub AnswersOwned : {A : Type 0} → Read (List ℕ × Bool) → Result (String A × Bor (List ℕ)) Refusal → Type 0
AnswersOwned reading (Ok p) = GivesText IsOwned reading p.0 p.1.now
AnswersOwned reading (Err e) = Refuses e (outcome reading)

-- reading gives a text with an escape, whose bytes follow those in front, and leaves this rest
pub record GivesMore (front : List ℕ) (reading : Read (List ℕ × Bool)) (bytes rest : List ℕ) : Type 0 where
  pub spelled : List ℕ
  pub read : reading ≡ got (spelled, false) (chars rest)
  pub whole : bytes ≡ front ++ encode_utf8_all spelled
  pub text : IsUtf8 rest

-- the rest of a text from an escape on is added to these bytes, and this follows it; or the fault
abbrev pub AddsRest : List ℕ → Read (List ℕ × Bool) → List ℕ → Result (Bor (List ℕ)) Refusal → Type 0
AddsRest front reading bytes (Ok rest) = GivesMore front reading bytes rest.now
AddsRest front reading bytes (Err e) = Refuses e (outcome reading)

-- the rest of a text from an escape on, with the bytes in front, and what follows it; or the fault
abbrev pub AnswersMore : {A : Type 0} → List ℕ → Read (List ℕ × Bool) → Result (String A × Bor (List ℕ)) Refusal → Type 0
AnswersMore front reading (Ok p) = GivesMore front reading (string_bytes p.0) p.1.now
AnswersMore front reading (Err e) = Refuses e (outcome reading)
