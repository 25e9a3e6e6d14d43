use Rattle.json5_edit.proofs.Changed.{edited_as}
use Rattle.json5_edit.proofs.changing.remove_alone.Goals as goal

pub returns : goal.returns
returns c = edited_as c.removed_with.result (λ new k. k) (λ new k. k) (λ e k. k) c.removed_with.ensures
