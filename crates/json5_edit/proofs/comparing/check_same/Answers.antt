use Rattle.json5_edit.specs.declared.paths.Step.TheVariants as step
use Rattle.json5_edit.proofs.EntriesPassed.{opens}
use Rattle.json5_edit.proofs.Compared.{same_entries}
use Rattle.json5_walk.proofs.Entries.{on_then}
use Rattle.json5_edit.proofs.comparing.check_same.Goals as goal

pub returns : goal.returns
returns c = on_then c.finish-2.result c.finish-2.ensures.walked (λ ends. same_entries c.args.kind (step.Index 0)
    (opens c.args.old.now c.full.result c.args.kind c.utf8.old c.full.ensures c.new-left.ensures c.in_ok-open_both.ensures.left)
    (opens c.args.new.now c.full-2.result c.args.kind c.utf8.new c.full-2.ensures c.new-right.ensures c.in_ok-open_both.ensures.right)
    c.in_ok-same_rest.ensures c.in_ok-finish.ensures.walked ends)
