-- What is refused where an option is expected.
-- A promise rests on this.
use Rattle.std.specs.Prelude.{◌≡◌, ◌⊎◌, ◌==◌, ℕ, Bool, true, false, List, [], ◌∷◌, ◌++◌, Option, Some, None}
use Rattle.json5_grammar.specs.Language.Characters.{letter_n}
use Rattle.json5_grammar.specs.declared.error_code.ErrorCode.{ErrorCode}
use Rattle.json5_grammar.specs.declared.error_code.ErrorCode.TheVariants as codes
use Rattle.json5_grammar.specs.Language.Trees.{Tree, null, boolean, number, text, array, object}
use Rattle.json5_types.specs.declared.error.Error.{Error}
use Rattle.json5_tokens.specs.Cursor.{Refused}
use Rattle.json5_de.specs.State.{State, cursor_of}
use Rattle.json5_de.specs.ReaderSteps.{PassedGap}
use Rattle.json5_de.specs.Faults.{FaultyNull}
use Rattle.json5_read.specs.EntryFaults.{AfterBlanks}
use Rattle.json5_read.specs.Offsets.{PositionedAt}

-- null is read without memory, and what T reads so
abbrev pub option_free : (Tree → Bool) → Tree → Bool
option_free allocation_free null = true
option_free allocation_free (boolean b) = allocation_free (boolean b)
option_free allocation_free (number n) = allocation_free (number n)
option_free allocation_free (text u escape_free) = allocation_free (text u escape_free)
option_free allocation_free (array ts) = allocation_free (array ts)
option_free allocation_free (object ps) = allocation_free (object ps)

-- no T begins: EofParsingValue at the end, and the faults of null at an `n`
pub data NoOption : List ℕ → Option ErrorCode → Option (List ℕ) → Type 0 where
  option_missing : NoOption [] (Some codes.EofParsingValue) None
  faulty_null : {r : List ℕ} {reason : Option ErrorCode} {place : Option (List ℕ)} → FaultyNull (letter_n ∷ r) reason place → NoOption (letter_n ∷ r) reason place

-- T refused after the blanks, with a fault that gets the value's start as its position if it had none
pub record RefusedInside (refuses : State → Error → State → Type 0) (old : State) (e : Error) (new : State) : Type 0 where
  pub start : State
  pub passed : PassedGap old start
  pub char : ℕ
  pub more : List ℕ
  pub begins : start.unread ≡ char ∷ more
  pub no_null : (char == letter_n) ≡ false
  pub own : Error
  pub after : State
  pub cause : refuses start own after
  pub left : new ≡ record after { failed = true }
  pub placed : PositionedAt (λ before. start.input ≡ before ++ start.unread) own e

-- why an option is refused
abbrev pub RefusesOption : (State → Error → State → Type 0) → State → Error → State → Type 0
RefusesOption refuses old e new = old.failed ≡ false → Refused (AfterBlanks NoOption) (cursor_of old) e ⊎ RefusedInside refuses old e new

-- a reader that hasn't failed refuses as T does, and has failed
abbrev pub RefusesLive : (State → Error → State → Type 0) → State → Error → State → Type 0
RefusesLive refuses old e new = old.failed ≡ false → (after : State) × refuses old e after × (new ≡ record after { failed = true })
