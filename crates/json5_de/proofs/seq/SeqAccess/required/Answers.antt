use Rattle.std.proofs.lemmas.Result.{err_from_is_err_and}
use Rattle.json5_de.specs.Lending.{state_of}
use Rattle.json5_de.specs.ListFaults.{missing}
use Rattle.json5_de.proofs.RequiredElements.{short_before, left_refused, left_missing}
use Rattle.json5_de.proofs.seq.SeqAccess.required.Goals as goal

pub returns-in_err-item-clause-left : goal.returns-in_err-item-clause-left
returns-in_err-item-clause-left g c ts r left =
    let (error, ok, from) = err_from_is_err_and c.from_residual.result c.from_residual.ensures.1 in
    rw (ok, from) (left_refused g.T.Deserialize.content g.T.Deserialize.convert ts r (state_of c.next_element.new.self) c.in_err-item.field-0.0 (c.in_err-item.ensures.left ts r left))

pub returns-in-Some-clause-left : goal.returns-in-Some-clause-left
returns-in-Some-clause-left g c ts r left = rw c.in-Some.is at c.in_ok-item.ensures.left ts r left

pub returns-in-None-clause-left : goal.returns-in-None-clause-left
returns-in-None-clause-left g c ts r left = left_missing g.T.Deserialize.content g.T.Deserialize.convert ts r (state_of c.next_element.new.self) c.too_short.result (rw c.in-None.is at c.in_ok-item.ensures.left ts r left)

pub returns-in-None-clause-refused : goal.returns-in-None-clause-refused
returns-in-None-clause-refused g c = λ live.
    let (at, comma_due) = rw c.in-None.is at c.in_ok-item.ensures.sound in
    missing (state_of c.next_element.new.self).reader at (short_before (state_of c.args.self.now) (state_of c.next_element.new.self) c.too_short.result c.in_ok-item.ensures.access.start c.in_ok-item.ensures.access.same_text c.too_short.ensures)
