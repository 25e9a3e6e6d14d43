-- What the short ways promise: they return what the reader's other calls return, or None, and then nothing has changed.
-- Private.
use Rattle.std.specs.Prelude.{◌≡◌, ℕ, Bool, true, false, List, Option, Some, None, MatchOption, Result, Ok, Err}
use Rattle.std.specs.Borrow.{Bor}
use Rattle.std.specs.Str.{encode_utf8_all}
use Rattle.json5_grammar.specs.Language.Trees.{text}
use Rattle.json5_types.specs.Errors.{LacksMemory}
use Rattle.json5_tokens.specs.TextTokens.{IsSliceAt}
use Rattle.json5_types.specs.declared.error.Error.{Error}
use Rattle.json5_tokens.specs.declared.short_texts.Span.{Span}
use Rattle.json5_de.specs.Keys.{TookKey}
use Rattle.json5_de.specs.DeserializeLaw.{TookValue}
use Rattle.json5_de.specs.TokenKinds.{Kind, ReadsAs}
use Rattle.json5_de.specs.State.{State, GivesUp}

-- a value of the kind is read, or nothing
abbrev pub ReadsShort : {V C : Type 0} → Kind C → (V → C) → State → State → Option V → Type 0
ReadsShort kind content old new result = MatchOption result (new ≡ old) (λ v. ReadsAs kind content old new (Ok v))

-- a string without an escape is read, whose text is at the span, or nothing
abbrev pub ReadsShortText : State → State → Option Span → Type 0
ReadsShortText old new result = MatchOption result (new ≡ old) (λ span. (u : List ℕ) × TookValue old (text u true) new × IsSliceAt new.input u span.start span.end)

-- a key without an escape is taken, whose text is at the span, or nothing
abbrev pub ReadsShortKey : State → State → Option Span → Type 0
ReadsShortKey old new result = MatchOption result (new ≡ old) (λ span. (u : List ℕ) × TookKey old u true new × IsSliceAt new.input u span.start span.end)

-- a string without an escape is read, or nothing
abbrev pub ReadsEscapeFreeText : State → State → Option (Bor (List ℕ)) → Type 0
ReadsEscapeFreeText old new result = MatchOption result (new ≡ old) (λ t. (u : List ℕ) × TookValue old (text u true) new × (t.now ≡ encode_utf8_all u))

-- a key without an escape is taken, or nothing
abbrev pub TakesEscapeFreeKey : State → State → Option (Bor (List ℕ)) → Type 0
TakesEscapeFreeKey old new result = MatchOption result (new ≡ old) (λ t. (u : List ℕ) × TookKey old u true new × (t.now ≡ encode_utf8_all u))

-- a refusal since memory ran out
abbrev pub RunsOut : {V : Type 0} → State → State → Result V Error → Type 0
RunsOut old new (Ok v) = ⊥
RunsOut old new (Err e) = LacksMemory e × GivesUp old new

-- what a call that may put something into a variable, and says whether it did, returns with what it put there
abbrev pub if_given : {A : Type 0} → A → Bool → Option A
if_given value true = Some value
if_given value false = None

abbrev pub filled_if_given : {A : Type 0} → A → Result Bool Error → Result (Option A) Error
filled_if_given value (Ok given) = Ok (if_given value given)
filled_if_given value (Err e) = Err e
