use Rattle.std.proofs.Common.{refl}
use Rattle.json5_edit.proofs.Compared.{others_start, others_go_on, rest_ends}
use Rattle.json5_edit.proofs.comparing.same_rest.Goals as goal

pub loop-init : goal.loop-init
loop-init c = others_start _ _ _

pub loop-preserved : goal.loop-preserved
loop-preserved c = let p = rw c.in-Some.is at c.in_ok-entry.ensures in others_go_on _ _ c.loop.invariant p.0 p.1 (c.if-is_meant.ensures refl)

pub returns-in_default : goal.returns-in_default
returns-in_default c = let p = rw c.in_default.is at c.in_ok-entry.ensures in rest_ends c.loop.invariant p.0 p.1
