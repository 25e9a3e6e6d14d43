-- The statuses of what goes wrong: 1 where the path leads nowhere, or a test of a patch fails, 3 where the file is no document, 2 for anything else.
-- A promise rests on this.
use Rattle.std.specs.Prelude.{ℕ}
use Rattle.cli_files.specs.declared.failure.Failure.{Failure}
use Rattle.cli_files.specs.declared.failure.Failure.TheVariants as failure
use Rattle.json5_edit.specs.declared.faults.EditError.{EditError}
use Rattle.json5_edit.specs.declared.faults.EditError.TheVariants as error
use Rattle.json5_edit_values.specs.declared.patch.faults.Trouble.{Trouble}
use Rattle.json5_edit_values.specs.declared.patch.faults.Trouble.TheVariants as patch
use Rattle.cli_edit.specs.declared.trouble.TextTrouble.{TextTrouble}
use Rattle.cli_edit.specs.declared.trouble.TextTrouble.TheVariants as trouble

abbrev pub edit_status : EditError → ℕ
edit_status error.Nowhere = 1
edit_status (error.Text e) = 3
edit_status _ = 2

abbrev pub operation_status : Trouble → ℕ
operation_status (patch.Edit e) = edit_status e
operation_status patch.Differs = 1
operation_status patch.IntoItself = 2

abbrev pub text_trouble_status : TextTrouble → ℕ
text_trouble_status (trouble.Edit e) = edit_status e
text_trouble_status (trouble.Operation x) = operation_status x.trouble
text_trouble_status _ = 2

-- where it isn't read
abbrev pub read_status : Failure → ℕ
read_status failure.NotUtf8 = 3
read_status (failure.Text e) = 3
read_status _ = 2
