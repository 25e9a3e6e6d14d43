use Rattle.std.proofs.Common.{◌≡◌, take}
use Rattle.json5_edit_values.proofs.patch.steps.further.Given as goal

-- the steps so far
abbrev pub invariant-loop-outer : goal.invariant-loop-outer
invariant-loop-outer l = l.path.items ≡ take l.outer-index l.steps
