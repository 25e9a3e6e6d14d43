use Rattle.cli_edit.proofs.EditsDone.{edit_made, edit_refused}
use Rattle.cli_edit.proofs.several_edits.edited.Goals as goal

pub returns-in-Ok-clause-made : goal.returns-in-Ok-clause-made
returns-in-Ok-clause-made c =
    edit_made c.in-Ok.path c.args.edit c.parts_of.result.0 c.parts_of.result.1.now c.parts_of.result.2.now c.args.text.now c.in-Ok.ensures c.parts_of.ensures.work c.parts_of.ensures.path c.parts_of.ensures.given c.done.result c.done.ensures.done

pub returns-in-Ok-clause-refused : goal.returns-in-Ok-clause-refused
returns-in-Ok-clause-refused c =
    edit_refused c.in-Ok.path c.args.edit c.parts_of.result.0 c.parts_of.result.1.now c.parts_of.result.2.now c.args.text.now c.in-Ok.ensures c.parts_of.ensures.work c.parts_of.ensures.path c.parts_of.ensures.given c.done.result c.done.ensures.refused
