use Rattle.std.specs.Fn.{FnReturnsAt}
use Rattle.std.specs.Prelude.{string_bytes}
use Rattle.json5_settings.proofs.FieldsPassed.{Passed}
use Rattle.json5_settings.proofs.known.read_known.Given as goal

-- what is left without the fields that were passed over
abbrev pub invariant-loop : goal.invariant-loop
invariant-loop g l = Passed (FnReturnsAt g.F.Fn l.fn.read) l.fn.text (string_bytes l.remains.text) l.remains.told.items
