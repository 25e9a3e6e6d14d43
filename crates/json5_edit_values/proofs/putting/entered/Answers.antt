use Rattle.std.proofs.Common.{refl}
use Rattle.json5_edit.proofs.Changed.{edited_as}
use Rattle.json5_edit_values.proofs.putting.entered.Goals as goal

pub returns-in-Key : goal.returns-in-Key
returns-in-Key c = rw c.in-Key.is (edited_as c.insert_in.result (λ made k. k) (λ made k. k) (λ e k. k) c.insert_in.ensures)

pub returns-in-Index : goal.returns-in-Index
returns-in-Index c = rw c.in-Index.is (edited_as c.appended.result (λ made k. k) (λ made k quoted. k refl) (λ e k. k) c.appended.ensures)
