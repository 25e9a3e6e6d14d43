use Rattle.std.proofs.Common.{take, true}
use Rattle.cli_check.specs.Checks.{given_schema}
use Rattle.cli_check.specs.Names.{ChecksEach}
use Rattle.cli_check.proofs.names.check_names.Given as goal

abbrev pub invariant-loop-name : goal.invariant-loop-name
invariant-loop-name g l =
    ChecksEach (g.S.Store.known l.store) (given_schema l.given) l.options (g.R.Read.remaining l.initial.r) (take l.name-index l.name-items) (g.R.Read.remaining l.r) l.status true
