-- The offsets of a value that was read.
-- A promise rests on this.
use Rattle.std.specs.Prelude.{◌≡◌, ◌⊎◌, ℕ, ◌++◌, true, false, List, length}
use Rattle.std.specs.Str.{encode_utf8_all}
use Rattle.json5_types.specs.declared.error.Error.{Error}
use Rattle.json5_tokens.specs.Cursor.{Refused}
use Rattle.json5_tokens.specs.TokenFaults.{FaultyBlanks}
use Rattle.json5_de.specs.State.{State, cursor_of}
use Rattle.json5_de.specs.ReaderSteps.{PassedGap}

-- so many bytes come before the unread part
abbrev pub IsBefore : State → ℕ → Type 0
IsBefore s offset = (before : List ℕ) → s.input ≡ before ++ s.unread → offset ≡ length (encode_utf8_all before)

-- `start` bytes come before the value's first character, where the blanks end, and `end` bytes before what follows the value
pub record SpansValue (old : State) (start end : ℕ) (new : State) : Type 0 where
  pub at : State
  pub passed : PassedGap old at
  pub starts : IsBefore at start
  pub ends : IsBefore new end

-- a comment before the value is at fault, or T refuses after the blanks; then the reader has failed
abbrev pub RefusesSpanned : (State → Error → State → Type 0) → State → Error → State → Type 0
RefusesSpanned refuses old e new = old.failed ≡ false → Refused FaultyBlanks (cursor_of old) e ⊎ ((at : State) × (after : State) × PassedGap old at × refuses at e after × (new ≡ record after { failed = true }))
