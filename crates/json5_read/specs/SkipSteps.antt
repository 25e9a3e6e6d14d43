-- How a value is passed over, and what the open brackets make of what is to come.
-- A promise rests on this.
use Rattle.std.specs.Prelude.{◌≡◌, ℕ, ◌-◌, ◌<◌, Bool, true, false, cond, List, [], length, Option, Some, None, Result, IfOk, IfErr, OnOk, OnErr}
use Rattle.json5_grammar.specs.Model.Reading.{Read, got}
use Rattle.json5_grammar.specs.Model.ReadSteps.{next_value, rest_of_bracket}
use Rattle.json5_types.specs.declared.error.Error.{Error}
use Rattle.json5_tokens.specs.Cursor.{Cursor}
use Rattle.json5_read.specs.declared.brackets.BracketKind.{BracketKind}
use Rattle.json5_read.specs.declared.brackets.OpenBracket.{OpenBracket}
use Rattle.json5_read.specs.declared.skip.Turn.{Turn}
use Rattle.json5_read.specs.declared.skip.Turn.TheVariants as turn
use Rattle.json5_read.specs.Brackets.{bracket_of}
use Rattle.json5_read.specs.Nesting.{Within, WithinInner}
use Rattle.json5_read.specs.Opening.{OpenedAt}
use Rattle.json5_read.specs.ModelSteps.{SameText, RefusesRead, Gave, value_at}

-- ---- how a value begins

-- a value was passed over, however many brackets may be open, or nothing was
abbrev pub PassesShort : Cursor → Cursor → Bool → Type 0
PassesShort old new true = (room : ℕ) → Gave (value_at room old) tt old new
PassesShort old new false = new ≡ old

-- a value that is no collection was taken, or an opening bracket
abbrev pub SkippedOrOpened : ℕ → Cursor → Cursor → Option OpenBracket → Type 0
SkippedOrOpened room old new None = Gave (value_at room old) tt old new
SkippedOrOpened room old new (Some bracket) = OpenedAt room bracket old new

pub record SkipsOrOpens (room : ℕ) (old new : Cursor) (result : Result (Option OpenBracket) Error) : Type 0 where
  pub begun : IfOk result (SkippedOrOpened room old new)
  pub refused : IfErr result (RefusesRead old.input (value_at room old))
  pub same_text : OnErr result (SameText old new)
  pub shorter : IfOk result (λ o. length new.unread < length old.unread)

-- ---- open brackets

-- what a value in a bracket leaves to read of it
abbrev pub rest_in : OpenBracket → ℕ → Unit {0} → List ℕ → Read (Unit {0})
rest_in bracket d u x = rest_of_bracket (bracket_of bracket.kind) true d x

abbrev pub start_of : OpenBracket → ℕ
start_of bracket = bracket.start

-- a value is next, or one has ended
abbrev pub stands : ℕ → Bool → Cursor → Read (Unit {0})
stands room at_value now = cond at_value (value_at room now) (got tt now.unread)

-- these brackets are open, and what is next makes w of the whole
abbrev pub Skipping : ℕ → Read (Unit {0}) → List OpenBracket → Bool → Cursor → Type 0
Skipping room w brackets at_value now = Within start_of rest_in room w brackets (stands (room - length brackets) at_value now) now

-- what is left of a bracket within these
abbrev pub rest_at : ℕ → List OpenBracket → OpenBracket → Bool → Cursor → Read (Unit {0})
rest_at room brackets bracket comma_due now = rest_of_bracket (bracket_of bracket.kind) comma_due (room - length brackets - 1) now.unread

-- the same within one more, which was opened before q
abbrev pub SkippingInside : ℕ → Read (Unit {0}) → List OpenBracket → OpenBracket → Bool → List ℕ → Cursor → Type 0
SkippingInside room w brackets bracket comma_due q now = WithinInner start_of rest_in room w brackets bracket.start (rest_at room brackets bracket comma_due now) q now

-- ---- turns

-- the next value of a bracket was passed over, or it was a bracket and was opened; or the closing sign was
abbrev pub Turned : BracketKind → Bool → ℕ → Cursor → Cursor → Turn → Type 0
Turned k comma_due room old new turn.Ended = (mid : Cursor) × Gave (next_value (bracket_of k) comma_due old.unread) true old mid × Gave (value_at room mid) tt mid new
Turned k comma_due room old new (turn.Opened bracket) = (mid : Cursor) × Gave (next_value (bracket_of k) comma_due old.unread) true old mid × OpenedAt room bracket mid new
Turned k comma_due room old new turn.Closed = Gave (next_value (bracket_of k) comma_due old.unread) false old new

-- the same, or what is refused makes a fault of what is left of the bracket
pub record TakesTurn (k : BracketKind) (comma_due : Bool) (room : ℕ) (old new : Cursor) (result : Result Turn Error) : Type 0 where
  pub goes : IfOk result (Turned k comma_due room old new)
  pub refused : IfErr result (RefusesRead old.input (rest_of_bracket (bracket_of k) comma_due room old.unread))
  pub same_text : OnErr result (SameText old new)

-- the rest of the outermost bracket, which was opened before q, was passed over; or what is refused makes a fault of the whole
pub record SkipsBracket (room : ℕ) (bracket : OpenBracket) (old new : Cursor) (result : Result (Unit {0}) Error) : Type 0 where
  pub goes : OnOk result ((w : Read (Unit {0})) (q : List ℕ) → SkippingInside room w [] bracket false q old → Skipping room w [] false new)
  pub refused : IfErr result (λ e. (w : Read (Unit {0})) (q : List ℕ) → SkippingInside room w [] bracket false q old → RefusesRead old.input w e)
  pub same_text : SameText old new

-- ---- the whole

-- the value in front was passed over
pub record SkipsValue (room : ℕ) (old new : Cursor) (result : Result (Unit {0}) Error) : Type 0 where
  pub given : IfOk result (λ u. Gave (value_at room old) tt old new)
  pub refused : IfErr result (RefusesRead old.input (value_at room old))
  pub same_text : SameText old new
