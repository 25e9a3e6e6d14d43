use Rattle.std.proofs.Common.{inr, string_bytes}
use Rattle.std.specs.Prelude.{IfOk}
use Rattle.std.proofs.lemmas.Result.{err_from_is_err_and}
use Rattle.json5_edit.specs.Changes.{RemovesWith}
use Rattle.json5_edit.specs.Comparing.{IsWithout}
use Rattle.json5_edit.specs.Pieces.{CutsWith}
use Rattle.json5_edit.specs.Refusals.{RefusesRemove}
use Rattle.json5_edit.proofs.Placed.{ok_then}
use Rattle.json5_edit.proofs.PlainCuts.{keeps_within}
use Rattle.json5_edit.proofs.Changed.{has_place, is_small, changed_within, not_edited}
use Rattle.json5_edit.proofs.Refused.{no_steps, lacking, path_remove, step_remove, value_fits}
use Rattle.json5_edit.proofs.changing.removed_with.Goals as goal

pub limit_of-room-requires : goal.limit_of-room-requires
limit_of-room-requires c = is_small c.in_ok-place.ensures.found

pub splice-requires : goal.splice-requires
splice-requires c = has_place c.in_ok-place.ensures.found

pub entry_found-requires : goal.entry_found-requires
entry_found-requires c = rw c.limit_of-room.ensures (value_fits c.args.text.now c.part_text-old.result.now c.in-Some.outer.now c.in_ok-place.place c.utf8.text c.in_ok-place.ensures.found c.part_text-old.ensures)

pub returns-in_default : goal.returns-in_default
returns-in_default c = not_edited (inr (no_steps c.args.path.now (rw c.in_default.is at c.split_last.ensures.cases)))

pub returns-in_err-place : goal.returns-in_err-place
returns-in_err-place c =
    let (y, is, from) = err_from_is_err_and c.from_residual.result c.from_residual.ensures.1 in
    rw (is, from) (not_edited (path_remove c.args.text.now c.args.path.now c.in-Some.outer.now c.in-Some.step.now c.in_err-place.field-0.0 c.in-Some.ensures.cases.0 c.in_err-place.ensures.refused))

pub returns-in_err-found : goal.returns-in_err-found
returns-in_err-found c =
    let (y, is, from) = err_from_is_err_and c.from_residual-in_err-found.result c.from_residual-in_err-found.ensures.1 in
    rw (is, from) (not_edited (step_remove c.args.text.now c.part_text-old.result.now c.in-Some.outer.now c.in_ok-place.place c.utf8.text c.in_ok-place.ensures.found c.part_text-old.ensures c.args.path.now c.in-Some.step.now c.in_err-found.field-0.0 c.in-Some.ensures.cases.0 c.in_err-found.ensures.refused))

pub returns-in_err-new : goal.returns-in_err-new
returns-in_err-new c =
    let (y, is, from) = err_from_is_err_and c.from_residual-in_err-new.result c.from_residual-in_err-new.ensures.1 in
    rw (is, from) (not_edited tt)

pub returns : goal.returns
returns c =
    let made : IfOk c.splice.result (λ new. RemovesWith c.args.leads c.args.text.now c.args.path.now (string_bytes new)) = ok_then c.splice.result (λ made k.
    let m = rw c.limit_of-room.ensures at c.in_ok-new.ensures in
    let q = changed_within (CutsWith c.args.leads) (IsWithout c.in-Some.step.now) c.args.text.now c.part_text-old.result.now c.as_str.result.now (string_bytes c.in_ok-new.new) (string_bytes made) c.in-Some.outer.now c.in_ok-place.place c.utf8.text c.as_str.utf8 c.as_str.ensures.value c.in_ok-place.ensures.found c.part_text-old.ensures (m.0, m.1, m.2) k in (
      (c.in-Some.outer.now, c.in-Some.step.now, c.in-Some.ensures.cases.0, q.0, q.1),
      keeps_within c.args.text.now c.part_text-old.result.now c.as_str.result.now (string_bytes c.in_ok-new.new) (string_bytes made) c.in-Some.outer.now c.in_ok-place.place c.utf8.text c.as_str.utf8 c.as_str.ensures.value c.in_ok-place.ensures.found c.part_text-old.ensures m.2 m.3 k,
    )) c.splice.ensures.spliced in
    record { made = made; plain = ok_then c.splice.result (λ new k. k.1) made; refused = lacking (RefusesRemove c.args.text.now c.args.path.now) c.splice.result tt c.splice.ensures.full }
