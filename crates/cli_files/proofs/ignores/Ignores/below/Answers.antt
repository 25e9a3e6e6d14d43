use Rattle.cli_files.specs.Ignores.{word}
use Rattle.cli_files.proofs.ignores.Ignores.below.Goals as goal

pub loop-at-init : goal.loop-at-init
loop-at-init g c = λ ruled. word (c.in_ok-ignores.ensures ruled)

pub loop-at-preserved-in-Continue-branch-3 : goal.loop-at-preserved-in-Continue-branch-3
loop-at-preserved-in-Continue-branch-3 g c = λ ruled. c.in_ok-enter.ensures c.args.excluded.now c.loop-at.invariant ruled
