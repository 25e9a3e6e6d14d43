use Rattle.std.proofs.Common.{refl}
use Rattle.json5_read.specs.declared.brackets.BracketKind.TheVariants as kind
use Rattle.json5_edit.proofs.EntriesPassed.{opens}
use Rattle.json5_edit.proofs.Compared.{member_put_in}
use Rattle.json5_walk.proofs.Entries.{on_then}
use Rattle.json5_edit.proofs.comparing.check_inserted.Goals as goal

pub returns : goal.returns
returns c = on_then c.finish-2.result c.finish-2.ensures.walked (λ ends. member_put_in c.args.before c.front_count.result _ _ c.args.key.now c.args.value.now c.front_count.ensures
    (opens c.args.old.now c.full.result kind.Object c.utf8.old c.full.ensures c.new-left.ensures c.in_ok-open_both.ensures.left)
    (opens c.args.new.now c.full-2.result kind.Object c.utf8.new c.full-2.ensures c.new-right.ensures c.in_ok-open_both.ensures.right)
    c.in_ok-same_front.ensures c.in_ok-came.ensures (c.if-not-has_key.ensures refl) (c.if-not-has_value.ensures refl) c.in_ok-same_after.ensures c.in_ok-finish.ensures.walked ends)
