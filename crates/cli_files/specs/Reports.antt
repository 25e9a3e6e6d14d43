-- The lines on standard error, and the statuses.
-- A promise rests on this.
use Rattle.std.specs.Prelude.{◌≡◌, ◌≤◌, ℕ, List, [], ◌∷◌, ◌++◌, string_bytes}
use lib.Chars.{codes}
use Rattle.json5_grammar.specs.Language.Characters.{line_feed}
use Rattle.json5_types.specs.declared.error.Error.{Error}
use Rattle.json5_types.specs.Errors.{error_text}
use Rattle.cli_files.specs.declared.failure.Failure.{Failure}
use Rattle.cli_files.specs.declared.failure.Failure.TheVariants as failure
use Rattle.cli_files.specs.declared.reason.Reason.{Reason}
use Rattle.cli_files.specs.declared.reason.Reason.TheVariants as reasons
use Rattle.cli_files.specs.declared.unwritten.Unwritten.{Unwritten}
use Rattle.cli_files.specs.declared.unwritten.Unwritten.TheVariants as unwritten
use Rattle.cli_files.specs.ShownNames.{shown_name}

-- the input's name as it is shown, what is said of it, and one LF
abbrev pub named_report : List ℕ → List ℕ → List ℕ
named_report name words = shown_name name ++ (codes ": " ++ (words ++ line_feed ∷ []))

abbrev pub fault_line : List ℕ → Error → List ℕ
fault_line name e = named_report name (error_text e)

abbrev pub report_line : List ℕ → Failure → List ℕ
report_line name failure.NotUtf8 = named_report name (codes "not UTF-8")
report_line name (failure.Text e) = fault_line name e
report_line name failure.NoMemory = named_report name (codes "out of memory")
report_line name failure.Read = named_report name (codes "cannot be read")
report_line name failure.Write = named_report (codes "output") (codes "cannot be written")

abbrev pub status_of : Failure → ℕ
status_of failure.NotUtf8 = 1
status_of (failure.Text e) = 1
status_of failure.NoMemory = 2
status_of failure.Read = 2
status_of failure.Write = 2

-- a program ends with a status of at most so much, and with 2 where it is asked for nothing
abbrev pub EndsWithin : (most : ℕ) → (asked_nothing : Type 0) → (status : ℕ) → Type 0
EndsWithin most asked_nothing status = (status ≤ most) × (asked_nothing → status ≡ 2)

-- why the system refuses a file, behind what can't be done
abbrev pub reason_words : Reason → List ℕ
reason_words reasons.NoFile = codes ": no such file"
reason_words reasons.NotAllowed = codes ": not allowed"
reason_words reasons.NameTooLong = codes ": its name is too long"
reason_words reasons.NameNotUtf8 = codes ": its name isn't UTF-8"
reason_words reasons.ReadOnly = codes ": the disk is read-only"
reason_words reasons.NoRoom = codes ": the disk is full"
reason_words reasons.Other = []

-- why a file wasn't replaced
abbrev pub unwritten_words : Unwritten → List ℕ
unwritten_words (unwritten.Refused why) = codes "cannot be written" ++ reason_words why
unwritten_words unwritten.Changed = codes "changed meanwhile, and was left as it is"
unwritten_words (unwritten.Taken beside) = codes "cannot be written: " ++ (shown_name (string_bytes beside) ++ codes " is there")
unwritten_words (unwritten.Remains beside) = codes "cannot be written, and " ++ (shown_name (string_bytes beside) ++ codes " remains")
unwritten_words (unwritten.Torn copy) = codes "was not written whole: " ++ (shown_name (string_bytes copy) ++ codes " has its old text")
unwritten_words unwritten.NoMemory = codes "out of memory"

abbrev pub unwritten_line : List ℕ → Unwritten → List ℕ
unwritten_line name u = named_report name (unwritten_words u)
