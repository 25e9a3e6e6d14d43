use Rattle.cli_files.specs.FolderSteps.{Gathering, IsBacked}
use Rattle.cli_files.proofs.folders.gather_below.Given as goal

abbrev pub invariant-loop : goal.invariant-loop
invariant-loop g l = IsBacked (g.S.Store.known l.store) l.fn.ignores l.ignores (λ excluded. Gathering (g.S.Store.known l.store) l.endings excluded l.folder l.fn.found.items l.left.items l.found.items)
