use Rattle.std.proofs.Common.{length, IsUtf8}
use Rattle.json5_edit.proofs.PathsRead.{GoesOn}
use Rattle.json5_edit.proofs.path_texts.dotted.read_dotted.Given as goal

abbrev pub invariant-steps : goal.invariant-steps
invariant-steps l = GoesOn l.fn.text l.rest l.steps.items × IsUtf8 l.rest

abbrev pub decreases-steps : goal.decreases-steps
decreases-steps l = length l.rest
