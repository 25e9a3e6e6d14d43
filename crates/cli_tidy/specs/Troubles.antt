-- The lines and the statuses of what goes wrong with a file.
-- A promise rests on this.
use Rattle.std.specs.Prelude.{ℕ, List, [], ◌∷◌, ◌++◌, Option, string_bytes}
use Rattle.json5_write.specs.Pieces.{AppendsFront}
use lib.Chars.{codes}
use Rattle.json5_grammar.specs.Language.Characters.{line_feed}
use Rattle.cli_files.specs.Reports.{named_report, reason_words, report_line, status_of, unwritten_line}
use Rattle.cli_tidy.specs.declared.trouble.FileTrouble.{FileTrouble}
use Rattle.cli_tidy.specs.declared.trouble.FileTrouble.TheVariants as trouble

-- a report names the file itself
abbrev pub trouble_line : List ℕ → FileTrouble → List ℕ
trouble_line name (trouble.Failed failure) = report_line name failure
trouble_line name (trouble.Refused shown) = string_bytes shown ++ line_feed ∷ []
trouble_line name (trouble.Unreported failure memory) = report_line name failure
trouble_line name (trouble.Unopened why) = named_report name (codes "cannot be read" ++ reason_words why)
trouble_line name (trouble.Unwritten u) = unwritten_line name u
trouble_line name trouble.NoFile = named_report name (codes "no file to tidy is in it")

abbrev pub file_trouble_status : FileTrouble → ℕ
file_trouble_status (trouble.Failed failure) = status_of failure
file_trouble_status (trouble.Refused shown) = 1
file_trouble_status (trouble.Unreported failure memory) = status_of failure
file_trouble_status (trouble.Unopened why) = 2
file_trouble_status (trouble.Unwritten u) = 2
file_trouble_status trouble.NoFile = 2

-- how the program is called
abbrev pub usage_line : List ℕ
usage_line = codes "usage: json5_tidy [OPTION...] [check FILE... or diff FILE... or print FILE... or write FILE... or style FILE...]" ++ line_feed ∷ []

-- it is said, behind a hint of which nothing more is promised
abbrev pub SaysUsage : (old new : Option (List ℕ)) → Type 0
SaysUsage old new = (hint : List ℕ) × AppendsFront old new (hint ++ usage_line)

-- memory ran out before any work began
abbrev pub memory_line : List ℕ
memory_line = named_report (codes "json5_tidy") (codes "out of memory")
