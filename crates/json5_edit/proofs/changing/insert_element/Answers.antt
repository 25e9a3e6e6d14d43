use Rattle.std.proofs.Common.{refl, string_bytes, subst, sym}
use Rattle.std.proofs.lemmas.Result.{err_from_is_err_and}
use Rattle.json5_lexemes.specs.Plain.{KeepsPlain, StaysPlain}
use Rattle.json5_edit.specs.Changes.{GainsAt, HasIndex}
use Rattle.json5_edit.specs.Pieces.{Grows}
use Rattle.json5_edit.specs.Refusals.{RefusesPutIn}
use Rattle.json5_read.specs.declared.brackets.BracketKind.TheVariants as kind
use Rattle.json5_edit.proofs.Placed.{ok_then}
use Rattle.json5_edit.proofs.Removed.{found_entry}
use Rattle.json5_edit.proofs.PlainlyEdited.{has_index}
use Rattle.json5_edit.proofs.Changed.{has_place, is_small, changed_within, not_edited}
use Rattle.json5_edit.proofs.PlainPlaces.{part_stays, plain_within}
use Rattle.json5_edit.proofs.Refused.{lacking, path_put_in, reaches_no, step_put_in, new_put_in, value_fits}
use Rattle.json5_edit.proofs.changing.insert_element.Goals as goal

pub limit_of-room-requires : goal.limit_of-room-requires
limit_of-room-requires c = is_small c.in_ok-place.ensures.found

pub splice-requires : goal.splice-requires
splice-requires c = has_place c.in_ok-place.ensures.found

pub entry_found-requires : goal.entry_found-requires
entry_found-requires c = rw c.limit_of-room.ensures (value_fits c.args.text.now c.part_text-old.result.now c.args.path.now c.in_ok-place.place c.utf8.text c.in_ok-place.ensures.found c.part_text-old.ensures)

pub put_in-requires-clause-entry : goal.put_in-requires-clause-entry
put_in-requires-clause-entry c = found_entry c.in_ok-found.ensures.found

pub put_in-requires-clause-value : goal.put_in-requires-clause-value
put_in-requires-clause-value c = c.in_ok-check_entry.ensures.value

pub put_in-requires-clause-plain : goal.put_in-requires-clause-plain
put_in-requires-clause-plain c = subst (λ z. KeepsPlain z c.part_text-old.result.now) (sym c.collection-collection.ensures.document) (part_stays c.args.text.now c.part_text-old.result.now c.args.path.now c.in_ok-place.place c.utf8.text c.in_ok-place.ensures.found c.part_text-old.ensures)

pub returns-in_err-place : goal.returns-in_err-place
returns-in_err-place c =
    let (y, is, from) = err_from_is_err_and c.from_residual.result c.from_residual.ensures.1 in
    rw (is, from) (not_edited (path_put_in c.args.text.now c.args.value.now c.args.path.now c.args.index c.in_err-place.field-0.0 c.in_err-place.ensures.refused))

pub returns-then-not-begins : goal.returns-then-not-begins
returns-then-not-begins c = not_edited (reaches_no c.args.text.now c.part_text-old.result.now c.args.path.now c.in_ok-place.place c.utf8.text c.in_ok-place.ensures.found c.part_text-old.ensures kind.Array (c.if-not-begins.ensures refl))

pub returns-in_err-found : goal.returns-in_err-found
returns-in_err-found c =
    let (y, is, from) = err_from_is_err_and c.from_residual-in_err-found.result c.from_residual-in_err-found.ensures.1 in
    rw (is, from) (not_edited (step_put_in c.args.text.now c.part_text-old.result.now c.args.path.now c.in_ok-place.place c.utf8.text c.in_ok-place.ensures.found c.part_text-old.ensures c.args.value.now c.args.index c.in_err-found.field-0.0 c.in_err-found.ensures.refused))

pub returns-in_err-check_entry : goal.returns-in_err-check_entry
returns-in_err-check_entry c =
    let (y, is, from) = err_from_is_err_and c.from_residual-in_err-check_entry.result c.from_residual-in_err-check_entry.ensures.1 in
    rw (is, from) (not_edited (new_put_in c.args.text.now c.args.path.now c.in_ok-place.place c.in_ok-place.ensures.found c.args.index c.args.value.now c.in_err-check_entry.field-0.0 (rw c.limit_of-room.ensures at c.in_err-check_entry.ensures.refused)))

pub returns-in_err-new : goal.returns-in_err-new
returns-in_err-new c =
    let (y, is, from) = err_from_is_err_and c.from_residual-in_err-new.result c.from_residual-in_err-new.ensures.1 in
    rw (is, from) (not_edited tt)

pub returns : goal.returns
returns c = record {
  made = ok_then c.splice.result (λ made k. let q = changed_within (λ x y. Grows kind.Array c.args.value.now x y × HasIndex c.args.index x) (GainsAt c.args.index c.args.value.now) c.args.text.now c.part_text-old.result.now c.as_str.result.now (string_bytes c.in_ok-new.new) (string_bytes made) c.args.path.now c.in_ok-place.place c.utf8.text c.as_str.utf8 c.as_str.ensures.value c.in_ok-place.ensures.found c.part_text-old.ensures (let m = rw c.limit_of-room.ensures at c.in_ok-new.ensures.put_in in (m.0, (m.1, has_index (found_entry c.in_ok-found.ensures.found)), m.2)) k in (q.0, q.1.0, q.1.1)) c.splice.ensures.spliced;
  plain = ok_then c.splice.result (λ made k. plain_within c.args.text.now c.args.value.now c.as_str.result.now (string_bytes c.in_ok-new.new) (string_bytes made) c.args.path.now c.in_ok-place.place c.utf8.text c.as_str.utf8 c.as_str.ensures.value c.in_ok-place.ensures.found (rw c.limit_of-room.ensures at c.in_ok-new.ensures.put_in.2) (subst (λ z. StaysPlain z c.args.value.now (string_bytes c.in_ok-new.new)) c.collection-collection.ensures.document (c.in_ok-new.ensures.plain)) k) c.splice.ensures.spliced;
  refused = lacking (RefusesPutIn c.args.text.now c.args.path.now c.args.index c.args.value.now) c.splice.result tt c.splice.ensures.full;
}
