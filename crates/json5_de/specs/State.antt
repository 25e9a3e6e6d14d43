-- What contracts see of a reader.
-- A promise rests on this.
use Rattle.std.specs.Prelude.{◌≡◌, ℕ, ◌-◌, List, Bool, true, false, Result, OnOk, OnErr, IsErrAnd}
use Rattle.json5_grammar.specs.Language.Documents.{max_depth}
use Rattle.json5_types.specs.declared.error.Error.{Error}
use Rattle.json5_tokens.specs.Cursor.{Cursor}

-- the whole input, its unread part, how many of 128 brackets are taken (those that are open, and those past the reader's limit, which is 128 by default),
-- and whether a call refused, or an access holds the reader or was dropped before its end
pub record State : Type 0 where
  pub input : List ℕ
  pub unread : List ℕ
  pub level : ℕ
  pub failed : Bool

-- a reader within a limit, at the start of the input: all brackets are taken but those that it may open
abbrev pub at_start : ℕ → List ℕ → State
at_start limit x = record { input = x; unread = x; level = max_depth - limit; failed = false }

abbrev pub cursor_of : State → Cursor
cursor_of s = record { input = s.input; unread = s.unread }

-- nothing changed but what is unread
abbrev pub OnlyRead : State → State → Type 0
OnlyRead old new = new ≡ record old { unread = new.unread }

-- the reader still reads the same input
abbrev pub SameText : State → State → Type 0
SameText old new = new.input ≡ old.input

-- it has failed, and still reads the same input
pub record GivesUp (old new : State) : Type 0 where
  pub failed : new.failed ≡ true
  pub same_text : SameText old new

-- a refusal leaves the reader failed
abbrev pub FailsIfErr : {V : Type 0} → State → Result V Error → Type 0
FailsIfErr new result = OnErr result (new.failed ≡ true)

abbrev pub GivesUpIfErr : {V : Type 0} → State → State → Result V Error → Type 0
GivesUpIfErr old new result = OnErr result (GivesUp old new)

-- the reader's scanner is called: nothing else changes if the call succeeds, and the reader has failed if it refuses
pub record Calls {A : Type 0} (IsCall : Cursor → Cursor → Result A Error → Type 0) (old new : State) (result : Result A Error) : Type 0 where
  pub call : IsCall (cursor_of old) (cursor_of new) result
  pub read : OnOk result (OnlyRead old new)
  pub failed : GivesUpIfErr old new result

-- it refuses with such a fault, and has failed
pub record GivesUpWith {V : Type 0} (IsFault : Error → Type 0) (old new : State) (result : Result V Error) : Type 0 where
  pub refused : IsErrAnd result IsFault
  pub failed : GivesUp old new
