use Rattle.std.proofs.Common.{take, true}
use Rattle.cli_tidy.specs.Names.{GoesThroughNames}
use Rattle.cli_tidy.proofs.files.work_through.Given as goal

abbrev pub invariant-loop-name : goal.invariant-loop-name
invariant-loop-name g l =
    GoesThroughNames (g.S.Store.known l.store) l.request (g.W.Write.contents l.initial.w) (g.E.Write.contents l.initial.e) (take l.name-index l.name-items) (g.W.Write.contents l.w) (g.E.Write.contents l.e) l.status true
