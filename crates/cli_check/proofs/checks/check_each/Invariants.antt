use Rattle.std.proofs.Common.{take}
use Rattle.cli_check.specs.Checks.{ChecksFiles, given_schema}
use Rattle.cli_check.proofs.checks.check_each.Given as goal

abbrev pub invariant-loop-name : goal.invariant-loop-name
invariant-loop-name g l =
    ChecksFiles (g.S.Store.known l.store) (given_schema l.given) l.options (g.R.Read.remaining l.initial.r) (take l.name-index l.names) (g.R.Read.remaining l.r) l.status
