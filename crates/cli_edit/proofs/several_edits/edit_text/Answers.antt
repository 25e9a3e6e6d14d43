use Rattle.std.proofs.Common.{refl, string_bytes}
use Rattle.cli_edit.proofs.EditsDone.{edits_on, edits_stopped}
use Rattle.cli_edit.proofs.several_edits.edit_text.Goals as goal

pub loop-edit-preserved : goal.loop-edit-preserved
loop-edit-preserved c =
    edits_on c.loop-edit.edit c.args.edits.now _ _ c.args.text.now (string_bytes c.loop-edit.made) (string_bytes c.in-Ok-edited.new) c.loop-edit-test.true refl c.loop-edit.invariant (rw c.as_str.ensures.value at c.in-Ok-edited.ensures.made)

pub returns-in-Err-clause-refused : goal.returns-in-Err-clause-refused
returns-in-Err-clause-refused c =
    edits_stopped c.loop-edit.edit c.args.edits.now _ _ c.args.text.now (string_bytes c.loop-edit.made) _ c.loop-edit-test.true refl refl c.path_of-path.ensures c.loop-edit.invariant (rw c.as_str.ensures.value at c.in-Err.ensures.refused)
