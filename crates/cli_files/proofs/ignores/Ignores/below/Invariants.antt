use Rattle.cli_files.specs.Ignores.{Backs}
use Rattle.cli_files.proofs.ignores.Ignores.below.Given as goal

abbrev pub invariant-loop-at : goal.invariant-loop-at
invariant-loop-at g l = Backs (g.S.Store.known l.store) l.excluded l.ignores
