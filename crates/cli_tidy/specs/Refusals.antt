-- What is shown of what was read and isn't tidied.
-- A promise rests on this.
use Rattle.std.specs.declared.alloc.Global.{Global}
use Rattle.std.specs.Prelude.{◌≡◌, ℕ, List, Option, Some, None, IfSome, String, string_bytes}
use Rattle.std.specs.Str.{IsUtf8}
use Rattle.json5_types.specs.declared.error.Error.{Error}
use Rattle.json5_types.specs.Errors.{LacksMemory}
use Rattle.json5_tokens.specs.Cursor.{IsOutOfMemory}
use Rattle.json5_report.specs.declared.report.Report.{Report}
use Rattle.json5_report.specs.Reports.{IsReportOf, IsReportOfWrong, report_text}
use Rattle.cli_files.specs.declared.failure.Failure.{Failure}
use Rattle.cli_files.specs.declared.failure.Failure.TheVariants as failure
use Rattle.cli_files.specs.Inputs.{IsReadFault, ReadFailure, RefusesInput}
use Rattle.cli_files.specs.ShownNames.{shown_name}
use Rattle.cli_tidy.specs.declared.trouble.FileTrouble.{FileTrouble}
use Rattle.cli_tidy.specs.declared.trouble.FileTrouble.TheVariants as trouble

-- the text is that of one of these reports
abbrev pub ShowsReport : (Report → Type 0) → List ℕ → Type 0
ShowsReport Those shown = (report : Report) × Those report × (shown ≡ report_text report)

-- a report of bytes with this name is shown, unless they are a text
abbrev pub ShowsBytes : (name bytes : List ℕ) → Option (String Global) → Type 0
ShowsBytes name bytes None = IsUtf8 bytes
ShowsBytes name bytes (Some shown) = ShowsReport (IsReportOfWrong (shown_name name) bytes) (string_bytes shown)

-- why bytes with this name are no document is shown, with the name as it is shown: a report of the first that is in no character, or of the text's fault
pub data ShowsFault (name bytes shown : List ℕ) : Type 0 where
  wrong : ShowsReport (IsReportOfWrong (shown_name name) bytes) shown → ShowsFault name bytes shown
  refused : (e : Error) → ¬ (IsOutOfMemory e) → RefusesInput e bytes → ShowsReport (IsReportOf (shown_name name) bytes e) shown → ShowsFault name bytes shown

-- why what was read is no document: no read failed, and memory didn't run out
abbrev pub IsCauseOf : (input : Option (List ℕ)) → Failure → Type 0
IsCauseOf input failure.Read = ⊥
IsCauseOf input failure.NoMemory = ⊥
IsCauseOf input s = ReadFailure input s

-- why what was read under this name isn't tidied; what is no document has its report, unless memory ran out for that
abbrev pub IsTroubleOf : (name : List ℕ) (input : Option (List ℕ)) → FileTrouble → Type 0
IsTroubleOf name input (trouble.Refused shown) = IfSome input (λ bytes. ShowsFault name bytes (string_bytes shown))
IsTroubleOf name input (trouble.Unreported s memory) = IsCauseOf input s × LacksMemory memory
IsTroubleOf name input (trouble.Failed s) = IsReadFault s
IsTroubleOf name input e = ⊥

-- the same of bytes that were read whole: no read failed, and memory ran out only for a text
abbrev pub IsFaultOf : (name bytes : List ℕ) → FileTrouble → Type 0
IsFaultOf name bytes (trouble.Failed failure.NoMemory) = IsUtf8 bytes
IsFaultOf name bytes (trouble.Failed s) = ⊥
IsFaultOf name bytes e = IsTroubleOf name (Some bytes) e
