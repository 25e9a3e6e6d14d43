use Rattle.std.specs.Prelude.{take}
use Rattle.json5_edit.proofs.MembersSorted.{PassesSome}
use Rattle.json5_edit.proofs.sorting.pass_all.Given as goal

abbrev pub invariant-loop-entry : goal.invariant-loop-entry
invariant-loop-entry l = PassesSome (take l.entry-index l.entries) l.fn.walk l.walk
