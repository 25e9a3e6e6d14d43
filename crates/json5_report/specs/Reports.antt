-- What a report says of a fault.
-- A promise rests on this.
use Rattle.std.specs.Prelude.{◌≡◌, ◌≢◌, ◌++◌, ℕ, List, [], ◌∷◌, take, All, Option, Some, None, codes, string_bytes}
use Rattle.std.specs.Str.{chars, IsUtf8, IsCharBoundary, IsValidUpTo}
use Rattle.std.specs.Str.Lossy.{utf8_lossy}
use Rattle.json5_grammar.specs.declared.position.Position.{Position}
use Rattle.json5_grammar.specs.Faults.Positions.{position_after}
use Rattle.json5_tokens.specs.Places.{AreUnitsOfLine}
use Rattle.json5_types.specs.declared.error.Error.{Error}
use Rattle.json5_types.specs.Errors.{error_position}
use Rattle.json5_report.specs.declared.report.Report.{Report}
use Rattle.json5_report.specs.Places.{IsOffsetOf, place_text, shown_position}
use Rattle.json5_report.specs.Paths.{Crumb, IsPathAt, path_text}
use Rattle.json5_report.specs.Painted.{painted_text}
use Rattle.json5_report.specs.Excerpts.{excerpt_text, coloured_excerpt_text}

-- the report has this name, this position of the text, its column in units of UTF-16, and the path of what is open there
pub record IsReportThere (name text : List ℕ) (p : Position) (report : Report) : Type 0 where
  pub named : string_bytes report.name ≡ name
  pub placed : report.position ≡ p
  pub offset : IsOffsetOf text report.position report.offset
  pub units : AreUnitsOfLine (chars (take report.offset text)) report.utf16_column
  pub path : IsPathAt (chars text) report.offset (string_bytes report.path)

-- the report has this name, the place of the fault in the text, and the path of what is open there
abbrev pub IsReportOf : (name text : List ℕ) → Error → Report → Type 0
IsReportOf name text error = IsReportThere name text (shown_position text (error_position error))

-- there are reports, each of them at the place of the fault
pub record AreReportsOf (name text : List ℕ) (error : Error) (reports : List Report) : Type 0 where
  pub some : reports ≢ []
  pub each : All (IsReportOf name text error) reports

-- the report has this name, this place, and the path of what is open
pub record IsReportAt (name text : List ℕ) (p : Position) (offset : ℕ) (o : List Crumb) (report : Report) : Type 0 where
  pub named : string_bytes report.name ≡ name
  pub placed : report.position ≡ p
  pub at : report.offset ≡ offset
  pub units : IsCharBoundary text offset → AreUnitsOfLine (chars (take offset text)) report.utf16_column
  pub path : string_bytes report.path ≡ path_text o

-- the bytes aren't UTF-8, and the report has this name and the place of the first that is in no character; its path is
-- that in the text which has U+FFFD for what is none
pub record IsReportOfWrong (name bytes : List ℕ) (report : Report) : Type 0 where
  pub named : string_bytes report.name ≡ name
  pub wrong : ¬ (IsUtf8 bytes)
  pub offset : IsValidUpTo bytes report.offset
  pub placed : report.position ≡ position_after (chars (take report.offset bytes))
  pub path : IsPathAt (chars (utf8_lossy bytes)) report.offset (string_bytes report.path)

-- there is a report unless the bytes are UTF-8
abbrev pub IsReportOfBytes : List ℕ → List ℕ → Option Report → Type 0
IsReportOfBytes name bytes None = IsUtf8 bytes
IsReportOfBytes name bytes (Some report) = IsReportOfWrong name bytes report

-- the path and a colon, or nothing for the document itself
abbrev pub lead_text : List ℕ → List ℕ
lead_text [] = []
lead_text (c ∷ path) = (c ∷ path) ++ codes ": "

-- the place stands in front
abbrev pub report_text : Report → List ℕ
report_text r =
    place_text (string_bytes r.name) r.position ++ codes ": " ++ lead_text (string_bytes r.path) ++ string_bytes r.message ++ excerpt_text r.excerpt

-- the place stands in front, without a colour; bold is 1
abbrev pub coloured_text : Report → List ℕ
coloured_text r =
    place_text (string_bytes r.name) r.position ++ codes ": " ++ lead_text (string_bytes r.path) ++ painted_text 1 (string_bytes r.message)
    ++ coloured_excerpt_text r.excerpt
