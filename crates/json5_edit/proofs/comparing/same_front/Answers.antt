use Rattle.std.proofs.Common.{◌≡◌, subst, rules, arith}
use Rattle.json5_edit.specs.Comparing.{PassesFront}
use Rattle.json5_edit.proofs.Compared.{front_starts, front_goes_on}
use Rattle.json5_edit.proofs.comparing.same_front.Goals as goal

pub loop-passed-init : goal.loop-passed-init
loop-passed-init c = front_starts _ _

pub loop-passed-preserved : goal.loop-passed-preserved
loop-passed-preserved c = let p = rw c.in-Some.is at c.in_ok-pass_pair.ensures in front_goes_on _ _ c.loop-passed.invariant p.0 p.1

pub returns : goal.returns
returns c = let e : c.loop-passed.passed ≡ c.args.count = first_of (search rules, omega arith) in subst (λ n. PassesFront n c.args.left.now c.args.right.now c.loop-passed.left c.loop-passed.right) e c.loop-passed.invariant
