use Rattle.std.proofs.Common.{take}
use Rattle.cli_tidy.specs.Files.{GoesThrough}
use Rattle.cli_tidy.proofs.files.work_on_each.Given as goal

abbrev pub invariant-loop-name : goal.invariant-loop-name
invariant-loop-name g l =
    GoesThrough (g.S.Store.known l.store) l.request (g.W.Write.contents l.initial.w) (g.E.Write.contents l.initial.e) (take l.name-index l.names) (g.W.Write.contents l.w) (g.E.Write.contents l.e) l.status
