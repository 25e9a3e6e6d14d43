use Rattle.std.proofs.Common.{refl, ◌∙◌}
use Rattle.json5_edit.proofs.EntriesPassed.{opens}
use Rattle.json5_edit.proofs.Compared.{removed}
use Rattle.json5_walk.proofs.Entries.{on_then}
use Rattle.json5_edit.proofs.comparing.check_removed.Goals as goal

pub returns : goal.returns
returns c = on_then c.finish-2.result c.finish-2.ensures.walked (λ ends. removed c.args.step c.args.index c.place.result c.kind.result _ _ c.kind.ensures c.place.ensures
    (opens c.args.old.now c.full.result c.kind.result c.utf8.old c.full.ensures c.new-left.ensures c.in_ok-open_both.ensures.left)
    (opens c.args.new.now c.full-2.result c.kind.result c.utf8.new c.full-2.ensures c.new-right.ensures c.in_ok-open_both.ensures.right)
    c.in_ok-same_front.ensures c.in_ok-gone.ensures (c.if-not-has_key.ensures refl ∙ c.key.ensures) c.in_ok-same_rest.ensures c.in_ok-finish.ensures.walked ends)
