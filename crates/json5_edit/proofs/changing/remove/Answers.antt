use Rattle.json5_edit.proofs.Changed.{edited_as}
use Rattle.json5_edit.proofs.changing.remove.Goals as goal

pub returns : goal.returns
returns c = edited_as c.removed_with.result (λ new k. let (outer, s, is, changed, cuts) = k.0 in (outer, s, is, changed, cuts.0)) (λ new k. k) (λ e k. k) c.removed_with.ensures
