use Rattle.std.proofs.Common.{take}
use Rattle.cli_edit.specs.Makes.{AreTokensOf}
use Rattle.cli_edit.proofs.patches.tokens_of.Given as goal

-- the tokens of the steps so far
abbrev pub invariant-loop-step : goal.invariant-loop-step
invariant-loop-step l = AreTokensOf (take l.step-index l.steps) l.tokens.items
