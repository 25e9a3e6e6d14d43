use Rattle.std.proofs.Common.{refl}
use Rattle.json5_read.specs.declared.brackets.BracketKind.TheVariants as kind
use Rattle.json5_edit.specs.declared.paths.Step.TheVariants as step
use Rattle.json5_edit.proofs.EntriesPassed.{opens}
use Rattle.json5_edit.proofs.Compared.{put_in}
use Rattle.json5_walk.proofs.Entries.{on_then}
use Rattle.json5_edit.proofs.comparing.check_put_in.Goals as goal

pub returns : goal.returns
returns c = on_then c.finish-2.result c.finish-2.ensures.walked (λ ends. put_in (step.Index c.args.index) c.args.index _ _ c.args.value.now
    (opens c.args.old.now c.full.result kind.Array c.utf8.old c.full.ensures c.new-left.ensures c.in_ok-open_both.ensures.left)
    (opens c.args.new.now c.full-2.result kind.Array c.utf8.new c.full-2.ensures c.new-right.ensures c.in_ok-open_both.ensures.right)
    c.in_ok-same_front.ensures c.in_ok-put.ensures (c.if-not-has_key.ensures refl) (c.if-not-has_value.ensures refl) c.in_ok-same_rest.ensures c.in_ok-finish.ensures.walked ends)
