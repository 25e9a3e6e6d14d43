use Rattle.std.proofs.Common.{take, string_bytes}
use Rattle.json5_edit.specs.Changes.{ChangesBy}
use Rattle.json5_edit_values.specs.Patches.{Patches}
use Rattle.json5_edit_values.proofs.patch.applying.apply_patch_in.Given as goal

-- the operations so far were made
abbrev pub invariant-loop-operation : goal.invariant-loop-operation
invariant-loop-operation l = ChangesBy (Patches (take l.operation l.patch.operations.items)) l.text (string_bytes l.made)
