use Rattle.json5_edit.specs.Comparing.{PassesFront}
use Rattle.json5_edit.proofs.comparing.same_front.Given as goal

abbrev pub invariant-loop-passed : goal.invariant-loop-passed
invariant-loop-passed l = PassesFront l.passed l.fn.left l.fn.right l.left l.right
