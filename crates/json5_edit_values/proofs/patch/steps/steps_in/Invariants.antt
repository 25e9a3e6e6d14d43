use Rattle.std.proofs.Common.{take}
use Rattle.json5_edit_values.specs.Locations.{AreSteps}
use Rattle.json5_edit_values.proofs.patch.steps.steps_in.Given as goal

-- the steps of the tokens so far
abbrev pub invariant-loop-token : goal.invariant-loop-token
invariant-loop-token l = AreSteps (take l.token-index l.tokens) l.steps.items
