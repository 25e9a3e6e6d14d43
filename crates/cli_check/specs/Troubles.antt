-- What is said of the program itself, and of what keeps it from its work.
-- A promise rests on this.
use Rattle.std.specs.Prelude.{◌≡◌, ⊤, ℕ, List, ◌∷◌, ◌++◌, [], Option, Result, Ok, Err}
use lib.Chars.{codes}
use Rattle.json5_grammar.specs.Language.Characters.{line_feed}
use Rattle.json5_write.specs.Pieces.{AppendsFront}
use Rattle.cli_files.specs.Reports.{named_report}
use Rattle.cli_files.specs.declared.version.TheConstants.{VERSION}
use Rattle.json5_types.specs.declared.error.Error.{Error}
use Rattle.json5_tokens.specs.Cursor.{IsOutOfMemory}
use Rattle.cli_check.specs.declared.verdict.Verdict.{Verdict}
use Rattle.cli_check.specs.declared.verdict.Verdict.TheVariants as verdict
use Rattle.cli_check.specs.declared.trouble.Trouble.{Trouble}
use Rattle.cli_check.specs.declared.trouble.Trouble.TheVariants as trouble

-- a read failed, or memory ran out
abbrev pub IsReadTrouble : Trouble → Type 0
IsReadTrouble trouble.NoMemory = ⊤
IsReadTrouble trouble.Read = ⊤
IsReadTrouble _ = ⊥

-- a write failed, or memory ran out
abbrev pub IsUnshownTrouble : Trouble → Type 0
IsUnshownTrouble trouble.NoMemory = ⊤
IsUnshownTrouble trouble.Write = ⊤
IsUnshownTrouble _ = ⊥

-- it is said that a document doesn't conform, unless that can't be shown
abbrev pub Refuses : Result Verdict Trouble → Type 0
Refuses (Ok v) = v ≡ verdict.Differs
Refuses (Err t) = IsUnshownTrouble t

-- the same of a text that is refused so, unless memory ran out
abbrev pub RefusesError : Error → Result Verdict Trouble → Type 0
RefusesError e (Ok v) = (v ≡ verdict.Differs) × ¬ (IsOutOfMemory e)
RefusesError e (Err t) = IsUnshownTrouble t

-- the line was said, and the status is 2
abbrev pub GivesUp : (line : List ℕ) → (errors said : Option (List ℕ)) → ℕ → Type 0
GivesUp line errors said status = (status ≡ 2) × AppendsFront errors said line

-- how the program is called
abbrev pub usage_line : List ℕ
usage_line = codes "usage: json5_check [--schema S] [OPTION...] FILE..." ++ line_feed ∷ []

-- memory ran out before any work began
abbrev pub memory_line : List ℕ
memory_line = named_report (codes "json5_check") (codes "out of memory")

abbrev pub version_text : List ℕ
version_text = codes "json5_check " ++ (VERSION.now ++ line_feed ∷ [])
