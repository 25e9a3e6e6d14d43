-- The steps of an access, and how its calls refuse.
-- A promise rests on this.
use Rattle.std.specs.Prelude.{◌≡◌, ℕ, ◌-◌, Bool, true, false, List, ◌∷◌, Option, is_some, ◌==◌, ◌||◌, Result, IfOk, IfErr, OnOk, OnErr, IsErrAnd}
use Rattle.json5_grammar.specs.Language.Trees.{Tree}
use Rattle.json5_grammar.specs.declared.error_code.ErrorCode.{ErrorCode}
use Rattle.json5_grammar.specs.declared.error_code.ErrorCode.TheVariants as codes
use Rattle.json5_grammar.specs.Language.Characters.{NotBegun}
use Rattle.json5_grammar.specs.Model.Collections.{IsEnd}
use Rattle.json5_tokens.specs.Cursor.{Refused}
use Rattle.json5_tokens.specs.ShortWays.{StepsTo}
use Rattle.json5_types.specs.declared.error.Error.{Error}
use Rattle.json5_types.specs.Errors.{code, kind_of}
use Rattle.json5_de.specs.State.{State, OnlyRead, SameText, cursor_of, FailsIfErr}
use Rattle.json5_read.specs.declared.brackets.BracketPair.{BracketPair}
use Rattle.json5_read.specs.Brackets.{square}
use Rattle.json5_read.specs.EntryFaults.{NoNext}
use Rattle.json5_de.specs.DeserializeLaw.{Unprompted, Steady}
use Rattle.json5_de.specs.Faults.{RefusedBy, AtEnd, DiffersWith}
use Rattle.json5_de.specs.Arrays.{AccessState, bare, GivesElement, CompletesElement, CompletesClose, AtClose, HasPosition, PositionedAtBracket, IsAtBracket, is_comma_or_closing, AnswersFailedAtBracket}
use Rattle.json5_read.specs.ModelSteps.{Unexpected}

-- the closing bracket in front was taken
abbrev pub TookClosing : BracketPair → State → State → Type 0
TookClosing b old new = (old.unread ≡ b.closing ∷ new.unread) × (new ≡ record old { unread = new.unread; level = old.level - 1 })

-- the fault of what isn't expected here, and the reader has failed
pub record IsUnexpected (ends differs : ErrorCode) (old new : State) (e : Error) : Type 0 where
  pub fault : Refused (Unexpected ends differs) (cursor_of old) e
  pub state : new ≡ record old { failed = true }

-- something else is in front
abbrev pub RefusesClosing : BracketPair → State → Error → Type 0
RefusesClosing b old e = Refused (Unexpected b.ends b.not_closed) (cursor_of old) e × NotBegun (λ c. c == b.closing) old.unread

-- the closing bracket is taken if it is in front
pub record TakesClosing (b : BracketPair) (old new : State) (result : Result (Unit {0}) Error) : Type 0 where
  pub taken : OnOk result (TookClosing b old new)
  pub refused : IfErr result (RefusesClosing b old)
  pub same_text : SameText old new

-- an element or a member may begin here: no closing bracket is next
pub record AtEntry (b : BracketPair) (comma_due : Bool) (old new : State) : Type 0 where
  pub live : old.failed ≡ false
  pub begun : StepsTo comma_due old.unread new.unread
  pub inside : NotBegun (λ c. c == b.closing) new.unread
  pub rest : OnlyRead old new

abbrev pub AdvancesToEntry : BracketPair → Bool → State → State → Bool → Type 0
AdvancesToEntry b comma_due old new true = AtEntry b comma_due old new
AdvancesToEntry b comma_due old new false = AtClose b comma_due old new

-- neither the start of an element or a member nor the closing bracket follows in x
pub record NothingNext (b : BracketPair) (comma_due : Bool) (x : List ℕ) : Type 0 where
  pub no_entry : (y : List ℕ) → StepsTo comma_due x y → ⊥
  pub no_close : (r : List ℕ) → IsEnd b.closing comma_due x r → ⊥

-- the reader goes to the next element or member, or to the closing bracket
pub record Advances (b : BracketPair) (comma_due : Bool) (old new : State) (result : Result Bool Error) : Type 0 where
  pub sound : IfOk result (λ more. AdvancesToEntry b comma_due old new more)
  pub refused : IfErr result (RefusedBy (NoNext b comma_due) old)
  pub nowhere : OnErr result (old.failed ≡ false → NothingNext b comma_due old.unread)
  pub steady : Steady old new result

-- ---- how a call of an access refuses

-- why a call is refused: its own fault, and how it leaves the reader
abbrev pub Cause : Type 1
Cause = Error → State → Type 0

-- the fault, at the opening bracket if it had no position
pub record PositionedFault (IsCause : Cause) (old : AccessState) (e : Error) : Type 0 where
  pub own : Error
  pub after : State
  pub cause : IsCause own after
  pub placed : PositionedAtBracket old own e

-- how a call is refused: a fault without a position gets the opening bracket's. If something is asked for, the code is `end_code`
-- at the end, and `other_code` at a character that begins nothing of it.
pub record RefusesCall {V : Type 0} (IsCause : Cause) (asked : Bool) (begins : ℕ → Bool) (end_code other_code : ErrorCode) (old : AccessState) (new : State) (result : Result V Error) : Type 0 where
  pub cause : IfErr result (λ e. old.reader.failed ≡ false → PositionedFault IsCause old e)
  pub placed : IfErr result HasPosition
  pub ends : asked ≡ true → AtEnd old.reader → IsErrAnd result (λ e. (kind_of e ≡ code end_code) × IsAtBracket old e)
  pub differs : asked ≡ true → DiffersWith begins other_code old.reader result
  pub unprompted : Unprompted old.reader result
  pub failed : FailsIfErr new result
  pub before : AnswersFailedAtBracket old result

-- ---- elements

-- the fault of a call for an element: no element was reached, or the element's own
pub data RefusesElement (refuses : State → Error → State → Type 0) (comma_due : Bool) (old : State) (e : Error) (after : State) : Type 0 where
  not_reached : RefusedBy (NoNext square comma_due) old e → RefusesElement refuses comma_due old e after
  in_element : (start : State) → AtEntry square comma_due old start → refuses start e after → RefusesElement refuses comma_due old e after

-- the element's fault, at the opening bracket if it had no position
abbrev pub RefusedAtBracket : (State → Error → State → Type 0) → AccessState → Error → Type 0
RefusedAtBracket refuses old e = PositionedFault (RefusesElement refuses old.comma_due old.reader) old e

-- how a call for an element refuses, which asks for a comma or the bracket after the first
abbrev pub RefusesNext : {V : Type 0} → (State → Error → State → Type 0) → AccessState → State → Result V Error → Type 0
RefusesNext refuses old new result = RefusesCall (RefusesElement refuses old.comma_due old.reader) old.comma_due (is_comma_or_closing square) codes.EofParsingArray codes.ExpectedComma old new result

-- an element was read or refused, or the bracket is next; the access holds nothing of it
pub record TakesElement {V C : Type 0} (content : V → C) (convert : Tree → Option C) (refuses : State → Error → State → Type 0) (comma_due : Bool) (old new : State) (result : Result (Option V) Error) : Type 0 where
  pub sound : IfOk result (λ o. GivesElement content convert (bare old comma_due) (bare new (comma_due || is_some o)) o)
  pub complete : CompletesElement convert (bare old comma_due) result
  pub closing : CompletesClose square (bare old comma_due) result
  pub cause : IfErr result (λ e. RefusesElement refuses comma_due old e new)
  pub steady : Steady old new result
