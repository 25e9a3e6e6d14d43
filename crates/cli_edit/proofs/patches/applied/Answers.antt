use Rattle.cli_edit.proofs.patches.applied.Goals as goal

pub returns-in-Ok-apply_patch_in : goal.returns-in-Ok-apply_patch_in
returns-in-Ok-apply_patch_in c = (c.in-Ok.patch.operations.items, c.in-Ok-apply_patch_in.ensures)
