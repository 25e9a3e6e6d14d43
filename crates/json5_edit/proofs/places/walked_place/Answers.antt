use Rattle.std.proofs.lemmas.Result.{err_from_is_err_and}
use Rattle.json5_edit.proofs.Placed.{leads_where}
use Rattle.json5_edit.proofs.Spared.{gap_needs, seek_needs, finish_needs}
use Rattle.json5_edit.proofs.places.walked_place.Goals as goal

pub returns-clause-found : goal.returns-clause-found
returns-clause-found c = rw c.place-place.ensures (leads_where c.args.text.now c.full.result c.args.path.now c.utf8.text c.full.ensures c.new-walk.ensures c.in_ok-gap.ensures.taken c.in_ok-seek.ensures.found c.in_ok-finish.ensures.walked)

pub returns-in_err-gap-clause-refused : goal.returns-in_err-gap-clause-refused
returns-in_err-gap-clause-refused c =
    let (y, is, from) = err_from_is_err_and c.from_residual.result c.from_residual.ensures.1 in
    rw (is, from) (gap_needs c.full.ensures c.new-walk.ensures c.in_err-gap.ensures.refused)

pub returns-in_err-seek-clause-refused : goal.returns-in_err-seek-clause-refused
returns-in_err-seek-clause-refused c =
    let (y, is, from) = err_from_is_err_and c.from_residual-in_err-seek.result c.from_residual-in_err-seek.ensures.1 in
    rw (is, from) (seek_needs c.utf8.text c.full.ensures c.new-walk.ensures c.in_ok-gap.ensures.taken c.in_ok-gap.ensures.solid c.in_err-seek.ensures.refused)

pub returns-in_err-finish-clause-refused : goal.returns-in_err-finish-clause-refused
returns-in_err-finish-clause-refused c =
    let (y, is, from) = err_from_is_err_and c.from_residual-in_err-finish.result c.from_residual-in_err-finish.ensures.1 in
    rw (is, from) (finish_needs c.utf8.text c.full.ensures c.new-walk.ensures c.in_ok-gap.ensures.taken c.in_ok-seek.ensures.found c.in_err-finish.ensures.refused)
