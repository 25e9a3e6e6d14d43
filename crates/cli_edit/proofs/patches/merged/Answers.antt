use Rattle.std.proofs.Common.{subst}
use Rattle.std.specs.Prelude.{string_bytes}
use Rattle.json5_edit.specs.Changes.{ChangesBy}
use Rattle.json5_edit_values.specs.Merges.{Merges}
use Rattle.cli_edit.proofs.patches.merged.Goals as goal

pub returns-in-Ok-merge_patch_in : goal.returns-in-Ok-merge_patch_in
returns-in-Ok-merge_patch_in c =
    let (t, d, is) = c.in-Ok.ensures.sound in
    (t, d, subst (λ z. ChangesBy (Merges z) c.args.text.now (string_bytes c.in-Ok-merge_patch_in.made)) is c.in-Ok-merge_patch_in.ensures)
