use Rattle.std.proofs.Common.{string_bytes}
use Rattle.cli_edit.proofs.several_edits.edit_file.Goals as goal

pub returns-clause-refused : goal.returns-clause-refused
returns-clause-refused g c = (string_bytes c.in-Ok.text, c.in-Ok.ensures.read, rw c.as_str.ensures.value at c.in-Err-edit_text.ensures.refused)
