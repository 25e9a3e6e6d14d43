use Rattle.std.proofs.Common.{inr}
use Rattle.std.proofs.lemmas.Result.{err_from_is_err_and}
use Rattle.json5_edit.proofs.Changed.{is_small}
use Rattle.json5_edit.proofs.Recommented.{as_own, as_removal}
use Rattle.json5_edit.proofs.Refused.{no_steps, path_remove, step_remove, value_fits}
use Rattle.json5_edit.proofs.commenting.comment_of.Goals as goal

pub limit_of-room-requires : goal.limit_of-room-requires
limit_of-room-requires c = is_small c.in_ok-place.ensures.found

pub entry_found-requires : goal.entry_found-requires
entry_found-requires c = rw c.limit_of-room.ensures (value_fits c.args.text.now c.part_text-old.result.now c.in-Some.outer.now c.in_ok-place.place c.utf8.text c.in_ok-place.ensures.found c.part_text-old.ensures)

pub returns-in_default : goal.returns-in_default
returns-in_default c = inr (no_steps c.args.path.now (rw c.in_default.is at c.split_last.ensures.cases))

pub returns-in_err-place : goal.returns-in_err-place
returns-in_err-place c =
    let (y, is, from) = err_from_is_err_and c.from_residual.result c.from_residual.ensures.1 in
    rw (is, from) (as_removal c.args.text.now c.args.path.now c.in_err-place.field-0.0 (path_remove c.args.text.now c.args.path.now c.in-Some.outer.now c.in-Some.step.now c.in_err-place.field-0.0 c.in-Some.ensures.cases.0 c.in_err-place.ensures.refused))

pub returns-in_err-start : goal.returns-in_err-start
returns-in_err-start c =
    let (y, is, from) = err_from_is_err_and c.from_residual-in_err-start.result c.from_residual-in_err-start.ensures.1 in
    rw (is, from) (as_removal c.args.text.now c.args.path.now c.in_err-start.field-0.0 (step_remove c.args.text.now c.part_text-old.result.now c.in-Some.outer.now c.in_ok-place.place c.utf8.text c.in_ok-place.ensures.found c.part_text-old.ensures c.args.path.now c.in-Some.step.now c.in_err-start.field-0.0 c.in-Some.ensures.cases.0 c.in_err-start.ensures.refused))

pub returns-in_err-from : goal.returns-in_err-from
returns-in_err-from c =
    let (y, is, from) = err_from_is_err_and c.from_residual-in_err-from.result c.from_residual-in_err-from.ensures.1 in
    rw is (as_own c.args.text.now c.args.path.now y from)
