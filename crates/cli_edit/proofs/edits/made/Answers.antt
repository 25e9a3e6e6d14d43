use Rattle.cli_edit.specs.declared.requests.Command.TheVariants as work
use Rattle.cli_edit.proofs.EditsMade.{made_by}
use Rattle.cli_edit.proofs.edits.made.Goals as goal

pub returns-in-Remove-clause-made : goal.returns-in-Remove-clause-made
returns-in-Remove-clause-made c =
    made_by work.Remove c.args.task.now.work c.args.text.now c.args.steps.now c.args.value.now c.removed.result c.edited-in-Remove.result c.in-Remove.is c.edited-in-Remove.ensures c.removed.ensures.removed

pub returns-in-Push-clause-made : goal.returns-in-Push-clause-made
returns-in-Push-clause-made c =
    made_by work.Push c.args.task.now.work c.args.text.now c.args.steps.now c.args.value.now c.push.result c.edited-in-Push.result c.in-Push.is c.edited-in-Push.ensures c.push.ensures.made

pub returns-in-Rename-clause-made : goal.returns-in-Rename-clause-made
returns-in-Rename-clause-made c =
    made_by work.Rename c.args.task.now.work c.args.text.now c.args.steps.now c.args.value.now c.rename.result c.edited-in-Rename.result c.in-Rename.is c.edited-in-Rename.ensures c.rename.ensures.made

pub returns-in-RemoveAlone-clause-made : goal.returns-in-RemoveAlone-clause-made
returns-in-RemoveAlone-clause-made c =
    made_by work.RemoveAlone c.args.task.now.work c.args.text.now c.args.steps.now c.args.value.now c.removed-in-RemoveAlone.result c.edited-in-RemoveAlone.result c.in-RemoveAlone.is c.edited-in-RemoveAlone.ensures c.removed-in-RemoveAlone.ensures.removed

pub returns-in-Comment-clause-made : goal.returns-in-Comment-clause-made
returns-in-Comment-clause-made c =
    made_by work.Comment c.args.task.now.work c.args.text.now c.args.steps.now c.args.value.now c.commented.result c.edited-in-Comment.result c.in-Comment.is c.edited-in-Comment.ensures c.commented.ensures.commented

pub returns-in-InsertBefore-clause-made : goal.returns-in-InsertBefore-clause-made
returns-in-InsertBefore-clause-made c =
    made_by (work.InsertBefore c.in-InsertBefore.before) c.args.task.now.work c.args.text.now c.args.steps.now c.args.value.now c.inserted_before.result c.edited-in-InsertBefore.result c.in-InsertBefore.is c.edited-in-InsertBefore.ensures c.inserted_before.ensures.inserted

pub returns-in-Sort-clause-made : goal.returns-in-Sort-clause-made
returns-in-Sort-clause-made c =
    made_by work.Sort c.args.task.now.work c.args.text.now c.args.steps.now c.args.value.now c.sort.result c.edited-in-Sort.result c.in-Sort.is c.edited-in-Sort.ensures c.sort.ensures.made

pub returns-in-Put-clause-made : goal.returns-in-Put-clause-made
returns-in-Put-clause-made c =
    made_by work.Put c.args.task.now.work c.args.text.now c.args.steps.now c.args.value.now c.put_in.result c.edited-in-Put.result c.in-Put.is c.edited-in-Put.ensures c.put_in.ensures.made

pub returns-in-PutAbsent-clause-made : goal.returns-in-PutAbsent-clause-made
returns-in-PutAbsent-clause-made c =
    made_by work.PutAbsent c.args.task.now.work c.args.text.now c.args.steps.now c.args.value.now c.put_if_absent.result c.edited-in-PutAbsent.result c.in-PutAbsent.is c.edited-in-PutAbsent.ensures c.put_if_absent.ensures.made
