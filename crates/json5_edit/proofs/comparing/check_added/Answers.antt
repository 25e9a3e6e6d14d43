use Rattle.std.proofs.Common.{refl}
use Rattle.json5_edit.proofs.EntriesPassed.{opens}
use Rattle.json5_edit.proofs.Compared.{added}
use Rattle.json5_walk.proofs.Entries.{on_then}
use Rattle.json5_edit.proofs.comparing.check_added.Goals as goal

pub returns : goal.returns
returns c = on_then c.finish-2.result c.finish-2.ensures.walked (λ ends. added c.args.kind c.args.count _ _ c.args.key.now c.args.value.now
    (opens c.args.old.now c.full.result c.args.kind c.utf8.old c.full.ensures c.new-left.ensures c.in_ok-open_both.ensures.left)
    (opens c.args.new.now c.full-2.result c.args.kind c.utf8.new c.full-2.ensures c.new-right.ensures c.in_ok-open_both.ensures.right)
    c.in_ok-same_front.ensures c.in_ok-came.ensures (c.if-not-has_key.ensures refl) (c.if-not-has_value.ensures refl) c.in_ok-close_both.ensures.0 c.in_ok-close_both.ensures.1 c.in_ok-finish.ensures.walked ends)
