use Rattle.json5_edit.proofs.MembersSorted.{PassesSome}
use Rattle.json5_edit.proofs.sorting.rest_of.Given as goal

abbrev pub invariant-loop : goal.invariant-loop
invariant-loop l = PassesSome l.entries.items l.fn.walk l.walk
