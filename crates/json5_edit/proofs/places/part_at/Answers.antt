use Rattle.std.proofs.lemmas.Result.{err_from_is_err_and}
use Rattle.json5_edit.proofs.places.part_at.Goals as goal

pub returns-in_err-place : goal.returns-in_err-place
returns-in_err-place c =
    let (y, is, from) = err_from_is_err_and c.from_residual.result c.from_residual.ensures.1 in
    rw (is, from) c.in_err-place.ensures.refused

pub returns : goal.returns
returns c =
    let leads = c.in_ok-place.ensures.found in
    let q = leads.placed in
    record { tree = leads.tree; document = leads.document; place = c.in_ok-place.place; there = q; same = c.part_text.ensures q.before q.old q.after q.cut }
