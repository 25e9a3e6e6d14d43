use Rattle.json5_edit.proofs.Compared.{PassesOthers}
use Rattle.json5_edit.proofs.comparing.same_rest.Given as goal

abbrev pub invariant-loop : goal.invariant-loop
invariant-loop l = PassesOthers l.fn.step l.fn.left l.fn.right l.left l.right
