use Rattle.std.proofs.Common.{take}
use Rattle.cli_fmt.specs.Files.{GoesThrough}
use Rattle.cli_fmt.proofs.files.work_through.Given as goal

abbrev pub invariant-loop-name : goal.invariant-loop-name
invariant-loop-name g l =
    GoesThrough (g.D.Disk.opens l.disk) l.work (g.W.Write.contents l.initial.w) (g.E.Write.contents l.initial.e) (take l.name-index l.names) (g.W.Write.contents l.w) (g.E.Write.contents l.e) l.status
