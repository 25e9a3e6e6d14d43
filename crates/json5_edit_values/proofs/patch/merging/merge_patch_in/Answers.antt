use Rattle.std.proofs.Common.{refl, string_bytes}
use Rattle.json5_edit.proofs.Placed.{ok_then}
use Rattle.json5_edit_values.proofs.MergesMade.{merged_whole}
use Rattle.json5_edit_values.proofs.patch.merging.merge_patch_in.Goals as goal

pub returns-in-Ok : goal.returns-in-Ok
returns-in-Ok c = ok_then c.merged.result (λ made k. merged_whole c.args.patch.now c.args.text.now (string_bytes made) _ refl k) c.merged.ensures
