use Rattle.std.proofs.Common.{refl}
use Rattle.json5_edit.proofs.Compared.{both_end, same_pair}
use Rattle.json5_edit.proofs.Placed.{ok_then}
use Rattle.json5_edit.proofs.comparing.pass_pair.Goals as goal

pub returns-in_default : goal.returns-in_default
returns-in_default c = ok_then c.end_too.result (λ found k. both_end c.args.right.now c.end_too.new.walk found (rw c.in_default.is at c.in_ok-one.ensures) k) c.end_too.ensures

pub returns : goal.returns
returns c = (rw c.in-Some.is at c.in_ok-one.ensures, same_pair _ _ _ _ (c.if-not-is_same.ensures.key refl) (c.if-not-is_same.ensures.value refl) c.in_ok-other.ensures)
