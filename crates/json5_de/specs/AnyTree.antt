-- How a value of any kind is read, and how it is refused.
-- A promise rests on this.
use Rattle.std.specs.Prelude.{◌≡◌, ◌⊎◌, ◌-◌, ℕ, Bool, false, Option, Some, Result}
use Rattle.json5_grammar.specs.declared.error_code.ErrorCode.TheVariants as codes
use Rattle.json5_grammar.specs.Language.Documents.{max_depth}
use Rattle.json5_grammar.specs.Faults.{begins_value}
use Rattle.json5_grammar.specs.Model.Reading.{Place, bad, IsAt}
use Rattle.json5_grammar.specs.Model.ReadValues.{read}
use Rattle.json5_grammar.specs.Faults.Refusals.{BlamesValue}
use Rattle.json5_grammar.specs.Language.Trees.{Tree}
use Rattle.json5_types.specs.declared.error.Error.{Error}
use Rattle.json5_tokens.specs.Cursor.{Refused, IsOutOfMemory}
use Rattle.json5_de.specs.State.{State, cursor_of}
use Rattle.json5_de.specs.DeserializeLaw.{ReadsValue}
use Rattle.json5_de.specs.Faults.{RefusedByOr, EndsWithOr, DiffersWithOr}
use Rattle.json5_read.specs.EntryFaults.{FaultRelation}

-- the fault of the value in front, with so many brackets open before it: if the input ends, the position is that of the innermost
-- bracket that the value opens
abbrev pub FaultyTree : ℕ → FaultRelation
FaultyTree level = BlamesValue (max_depth - level)

-- it is refused with its fault, or because memory ran out, whose position isn't promised
abbrev pub RefusesTree : State → Error → Type 0
RefusesTree s e = IsOutOfMemory e ⊎ (s.failed ≡ false → Refused (FaultyTree s.level) (cursor_of s) e)

-- what reading on lists refuses the value in front with
abbrev pub ReadingRefuses : ℕ → FaultRelation
ReadingRefuses level x reason place = (p : Place) × (read (max_depth - level) x ≡ bad reason p) × IsAt x place p

-- the same of reading on lists
abbrev pub RefusedInReading : State → Error → Type 0
RefusedInReading s e = RefusedByOr IsOutOfMemory (ReadingRefuses s.level) s e

-- one value of any kind is read from the front, as what its tree converts to
abbrev pub ReadsTree : {V C : Type 0} → (V → C) → (Tree → Option C) → (Tree → Bool) → State → State → Result V Error → Type 0
ReadsTree content convert allocation_free old new result = ReadsValue content convert allocation_free (λ (s : State) e t. RefusesTree s e) old new result

-- the code at the end, and that at a character that begins no value
abbrev pub TellsTreesApart : {V C : Type 0} → (V → C) → (Tree → Option C) → (Tree → Bool) → Type 0
TellsTreesApart {V = V} content convert allocation_free =
    (old new : State) (result : Result V Error) → ReadsTree content convert allocation_free old new result
    → EndsWithOr IsOutOfMemory codes.EofParsingValue old result × DiffersWithOr IsOutOfMemory begins_value codes.ExpectedValue old result

-- every tree converts, and nothing is kept of it
abbrev pub every_value : Tree → Option (Unit {0})
every_value t = Some tt

abbrev pub nothing : {V : Type 0} → V → Unit {0}
nothing v = tt
