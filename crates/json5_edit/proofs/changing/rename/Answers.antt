use Rattle.std.proofs.Common.{inl, refl, ap, ◌∙◌, [], ◌∷◌, ◌++◌, subst, string_bytes}
use Rattle.std.proofs.lemmas.Result.{err_from_is_err_and}
use Rattle.json5_edit.specs.Comparing.{IsRenamed}
use Rattle.json5_edit.specs.Pieces.{Respells}
use Rattle.json5_edit.specs.Refusals.{IsFree, RefusesRename}
use Rattle.json5_edit.specs.Spots.{HasEntry}
use Rattle.json5_edit.proofs.Placed.{ok_then}
use Rattle.json5_edit.proofs.Removed.{found_entry}
use Rattle.json5_edit.proofs.PlainCuts.{keeps_within}
use Rattle.json5_edit.proofs.Changed.{has_place, is_small, changed_within, not_edited}
use Rattle.json5_edit.proofs.Refused.{no_steps, lacking, path_rename, step_rename, free_rename, value_fits}
use Rattle.json5_edit.proofs.changing.rename.Goals as goal

pub limit_of-room-requires : goal.limit_of-room-requires
limit_of-room-requires c = is_small c.in_ok-place.ensures.found

pub entry_found-requires : goal.entry_found-requires
entry_found-requires c = rw c.limit_of-room.ensures (value_fits c.args.text.now c.part_text-old.result.now c.in-Some.outer.now c.in_ok-place.place c.utf8.text c.in_ok-place.ensures.found c.part_text-old.ensures)

pub free_end-requires : goal.free_end-requires
free_end-requires c = rw c.limit_of-room.ensures (value_fits c.args.text.now c.part_text-old.result.now c.in-Some.outer.now c.in_ok-place.place c.utf8.text c.in_ok-place.ensures.found c.part_text-old.ensures)

pub renamed-requires : goal.renamed-requires
renamed-requires c = (c.in-Key.name, refl, subst (λ s. HasEntry s c.limit_of-room.result c.part_text-old.result.now c.in_ok-found.found.start) c.in-Key.is (found_entry c.in_ok-found.ensures.found))

pub splice-requires : goal.splice-requires
splice-requires c = has_place c.in_ok-place.ensures.found

pub returns-in_default : goal.returns-in_default
returns-in_default c = not_edited (inl (no_steps c.args.path.now (rw c.in_default.is at c.split_last.ensures.cases)))

pub returns-in_err-place : goal.returns-in_err-place
returns-in_err-place c =
    let (y, is, from) = err_from_is_err_and c.from_residual.result c.from_residual.ensures.1 in
    rw (is, from) (not_edited (path_rename c.args.text.now c.args.key.now c.args.path.now c.in-Some.outer.now c.in-Some.step.now c.in_err-place.field-0.0 c.in-Some.ensures.cases.0 c.in_err-place.ensures.refused))

pub returns-in_err-found : goal.returns-in_err-found
returns-in_err-found c =
    let (y, is, from) = err_from_is_err_and c.from_residual-in_err-found.result c.from_residual-in_err-found.ensures.1 in
    rw (is, from) (not_edited (step_rename c.args.text.now c.part_text-old.result.now c.in-Some.outer.now c.in_ok-place.place c.utf8.text c.in_ok-place.ensures.found c.part_text-old.ensures c.args.path.now c.args.key.now c.in-Some.step.now c.in_err-found.field-0.0 c.in-Some.ensures.cases.0 c.in_err-found.ensures.refused))

pub returns-in_err-free_end : goal.returns-in_err-free_end
returns-in_err-free_end c =
    let (y, is, from) = err_from_is_err_and c.from_residual-in_err-free_end.result c.from_residual-in_err-free_end.ensures.1 in
    let there = subst (λ s. HasEntry s c.limit_of-room.result c.part_text-old.result.now c.in_ok-found.found.start) c.in-Key.is (found_entry c.in_ok-found.ensures.found) in
    rw (is, from) (not_edited (free_rename c.args.text.now c.part_text-old.result.now c.in-Some.outer.now c.in_ok-place.place c.utf8.text c.in_ok-place.ensures.found c.part_text-old.ensures c.args.path.now c.args.key.now c.in-Some.step.now c.in_err-free_end.field-0.0 c.in-Some.ensures.cases.0 (λ n. n there.tree there.value there.kind) c.in_err-free_end.ensures.refused))

pub returns-in_err-new : goal.returns-in_err-new
returns-in_err-new c =
    let (y, is, from) = err_from_is_err_and c.from_residual-in_err-new.result c.from_residual-in_err-new.ensures.1 in
    rw (is, from) (not_edited tt)

pub returns : goal.returns
returns c = record {
  made = ok_then c.splice.result (λ made k. let q = changed_within (λ x y. Respells x y × IsFree c.args.key.now x) (IsRenamed c.in-Key.name.now c.args.key.now) c.args.text.now c.part_text-old.result.now c.as_str.result.now (string_bytes c.in_ok-new.new) (string_bytes made) c.in-Some.outer.now c.in_ok-place.place c.utf8.text c.as_str.utf8 c.as_str.ensures.value c.in_ok-place.ensures.found c.part_text-old.ensures (let m = rw c.limit_of-room.ensures at c.in_ok-new.ensures in (m.0, (m.1, c.in_ok-free_end.ensures.free), m.2)) k in (c.in-Some.outer.now, c.in-Key.name, c.in-Some.ensures.cases.0 ∙ ap (λ s. c.in-Some.outer.now ++ (s ∷ [])) c.in-Key.is, q.0, q.1.0, q.1.1)) c.splice.ensures.spliced;
  plain = ok_then c.splice.result (λ made k. let q = rw c.limit_of-room.ensures at c.in_ok-new.ensures in keeps_within c.args.text.now c.part_text-old.result.now c.as_str.result.now (string_bytes c.in_ok-new.new) (string_bytes made) c.in-Some.outer.now c.in_ok-place.place c.utf8.text c.as_str.utf8 c.as_str.ensures.value c.in_ok-place.ensures.found c.part_text-old.ensures q.2 q.3 k) c.splice.ensures.spliced;
  refused = lacking (RefusesRename c.args.text.now c.args.path.now c.args.key.now) c.splice.result tt c.splice.ensures.full;
}
