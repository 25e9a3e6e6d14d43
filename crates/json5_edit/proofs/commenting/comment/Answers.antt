use Rattle.std.proofs.Common.{inr, string_bytes}
use Rattle.std.proofs.lemmas.Result.{err_from_is_err_and}
use Rattle.json5_edit.specs.Commented.{RecommentsAt}
use Rattle.json5_edit.specs.Comparing.{HaveSameEntries}
use Rattle.json5_edit.specs.Refusals.{RefusesComment}
use Rattle.json5_edit.proofs.Placed.{ok_then}
use Rattle.json5_edit.proofs.Changed.{has_place, is_small, changed_within}
use Rattle.json5_edit.proofs.Recommented.{as_own, as_removal}
use Rattle.json5_edit.proofs.Refused.{no_steps, lacking, path_remove, step_remove, value_fits}
use Rattle.json5_edit.proofs.commenting.comment.Goals as goal

pub limit_of-room-requires : goal.limit_of-room-requires
limit_of-room-requires c = is_small c.in_ok-place.ensures.found

pub splice-requires : goal.splice-requires
splice-requires c = has_place c.in_ok-place.ensures.found

pub entry_found-requires : goal.entry_found-requires
entry_found-requires c = rw c.limit_of-room.ensures (value_fits c.args.text.now c.part_text-old.result.now c.in-Some.outer.now c.in_ok-place.place c.utf8.text c.in_ok-place.ensures.found c.part_text-old.ensures)

pub returns-in_default-clause-refused : goal.returns-in_default-clause-refused
returns-in_default-clause-refused c = inr (no_steps c.args.path.now (rw c.in_default.is at c.split_last.ensures.cases))

pub returns-in_err-place-clause-refused : goal.returns-in_err-place-clause-refused
returns-in_err-place-clause-refused c =
    let (y, is, from) = err_from_is_err_and c.from_residual.result c.from_residual.ensures.1 in
    rw (is, from) (as_removal c.args.text.now c.args.path.now c.in_err-place.field-0.0 (path_remove c.args.text.now c.args.path.now c.in-Some.outer.now c.in-Some.step.now c.in_err-place.field-0.0 c.in-Some.ensures.cases.0 c.in_err-place.ensures.refused))

pub returns-in_err-start-clause-refused : goal.returns-in_err-start-clause-refused
returns-in_err-start-clause-refused c =
    let (y, is, from) = err_from_is_err_and c.from_residual-in_err-start.result c.from_residual-in_err-start.ensures.1 in
    rw (is, from) (as_removal c.args.text.now c.args.path.now c.in_err-start.field-0.0 (step_remove c.args.text.now c.part_text-old.result.now c.in-Some.outer.now c.in_ok-place.place c.utf8.text c.in_ok-place.ensures.found c.part_text-old.ensures c.args.path.now c.in-Some.step.now c.in_err-start.field-0.0 c.in-Some.ensures.cases.0 c.in_err-start.ensures.refused))

pub returns-in_err-new-clause-refused : goal.returns-in_err-new-clause-refused
returns-in_err-new-clause-refused c =
    let (y, is, from) = err_from_is_err_and c.from_residual-in_err-new.result c.from_residual-in_err-new.ensures.1 in
    rw is (as_own c.args.text.now c.args.path.now y from)

pub returns-clause-commented : goal.returns-clause-commented
returns-clause-commented c = ok_then c.splice.result (λ made k.
    let m = rw c.limit_of-room.ensures at c.in_ok-new.ensures in
    let q = changed_within (RecommentsAt c.in-Some.step.now) HaveSameEntries c.args.text.now c.part_text-old.result.now c.as_str.result.now (string_bytes c.in_ok-new.new) (string_bytes made) c.in-Some.outer.now c.in_ok-place.place c.utf8.text c.as_str.utf8 c.as_str.ensures.value c.in_ok-place.ensures.found c.part_text-old.ensures m k in
    (c.in-Some.outer.now, c.in-Some.step.now, c.in-Some.ensures.cases.0, q.0, q.1)) c.splice.ensures.spliced

pub returns-clause-refused : goal.returns-clause-refused
returns-clause-refused c = lacking (RefusesComment c.args.text.now c.args.path.now) c.splice.result tt c.splice.ensures.full
