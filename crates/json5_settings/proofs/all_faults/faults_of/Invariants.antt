use Rattle.std.specs.Fn.{FnReturnsAt}
use Rattle.std.specs.Prelude.{string_bytes}
use Rattle.json5_settings.proofs.Failures.{Goes}
use Rattle.json5_settings.proofs.all_faults.faults_of.Given as goal

-- the faults that were told, and what is left of the text
abbrev pub invariant-loop : goal.invariant-loop
invariant-loop g l = Goes (FnReturnsAt g.F.Fn l.fn.read) l.fn.text l.goes_on (string_bytes l.remains.text) l.remains.told.items
