use Rattle.std.proofs.Common.{take, string_bytes}
use Rattle.cli_edit.specs.SeveralEdits.{EditsAll}
use Rattle.cli_edit.proofs.several_edits.edit_text.Given as goal

-- the edits so far were made
abbrev pub invariant-loop-edit : goal.invariant-loop-edit
invariant-loop-edit l = EditsAll (take l.edit l.edits) l.text (string_bytes l.made)
