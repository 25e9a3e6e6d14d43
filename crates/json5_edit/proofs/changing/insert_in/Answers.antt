use Rattle.std.proofs.Common.{string_bytes, subst, sym}
use Rattle.std.proofs.lemmas.Result.{err_from_is_err_and}
use Rattle.json5_lexemes.specs.Plain.{KeepsPlain, StaysPlain}
use Rattle.json5_edit.specs.Changes.{Gains}
use Rattle.json5_edit.specs.Pieces.{Grows}
use Rattle.json5_edit.specs.Refusals.{IsFree, RefusesInsert}
use Rattle.json5_read.specs.declared.brackets.BracketKind.TheVariants as kind
use Rattle.json5_edit.proofs.Placed.{ok_then}
use Rattle.json5_edit.proofs.Changed.{has_place, is_small, changed_within, not_edited}
use Rattle.json5_edit.proofs.PlainPlaces.{part_stays, plain_within}
use Rattle.json5_edit.proofs.Refused.{lacking, path_insert, free_insert, new_insert, value_fits}
use Rattle.json5_edit.proofs.changing.insert_in.Goals as goal

pub limit_of-room-requires : goal.limit_of-room-requires
limit_of-room-requires c = is_small c.in_ok-place.ensures.found

pub splice-requires : goal.splice-requires
splice-requires c = has_place c.in_ok-place.ensures.found

pub free_end-requires : goal.free_end-requires
free_end-requires c = rw c.limit_of-room.ensures (value_fits c.args.text.now c.part_text-old.result.now c.args.path.now c.in_ok-place.place c.utf8.text c.in_ok-place.ensures.found c.part_text-old.ensures)

pub inserted-requires : goal.inserted-requires
inserted-requires c = (
  c.in_ok-end.ensures.found,
  c.in_ok-check_entry.ensures.value,
  subst (λ z. KeepsPlain z c.part_text-old.result.now) (sym c.collection-collection.ensures.document) (part_stays c.args.text.now c.part_text-old.result.now c.args.path.now c.in_ok-place.place c.utf8.text c.in_ok-place.ensures.found c.part_text-old.ensures),
)

pub returns-in_err-place : goal.returns-in_err-place
returns-in_err-place c =
    let (y, is, from) = err_from_is_err_and c.from_residual.result c.from_residual.ensures.1 in
    rw (is, from) (not_edited (path_insert c.args.text.now c.args.key.now c.args.value.now c.args.path.now c.in_err-place.field-0.0 c.in_err-place.ensures.refused))

pub returns-in_err-end : goal.returns-in_err-end
returns-in_err-end c =
    let (y, is, from) = err_from_is_err_and c.from_residual-in_err-end.result c.from_residual-in_err-end.ensures.1 in
    rw (is, from) (not_edited (free_insert c.args.text.now c.part_text-old.result.now c.args.path.now c.in_ok-place.place c.utf8.text c.in_ok-place.ensures.found c.part_text-old.ensures c.args.key.now c.args.value.now c.in_err-end.field-0.0 c.in_err-end.ensures.refused))

pub returns-in_err-check_entry : goal.returns-in_err-check_entry
returns-in_err-check_entry c =
    let (y, is, from) = err_from_is_err_and c.from_residual-in_err-check_entry.result c.from_residual-in_err-check_entry.ensures.1 in
    rw (is, from) (not_edited (new_insert c.args.text.now c.args.path.now c.in_ok-place.place c.in_ok-place.ensures.found c.args.key.now c.args.value.now c.in_err-check_entry.field-0.0 (rw c.limit_of-room.ensures at c.in_err-check_entry.ensures.refused)))

pub returns-in_err-new : goal.returns-in_err-new
returns-in_err-new c =
    let (y, is, from) = err_from_is_err_and c.from_residual-in_err-new.result c.from_residual-in_err-new.ensures.1 in
    rw (is, from) (not_edited tt)

pub returns : goal.returns
returns c = record {
  made = ok_then c.splice.result (λ made k. let q = changed_within (λ x y. Grows kind.Object c.args.value.now x y × IsFree c.args.key.now x) (Gains kind.Object c.args.key.now c.args.value.now) c.args.text.now c.part_text-old.result.now c.as_str.result.now (string_bytes c.in_ok-new.new) (string_bytes made) c.args.path.now c.in_ok-place.place c.utf8.text c.as_str.utf8 c.as_str.ensures.value c.in_ok-place.ensures.found c.part_text-old.ensures (let m = rw c.limit_of-room.ensures at c.in_ok-new.ensures.0 in (m.0, (m.1, c.in_ok-end.ensures.free), m.2)) k in (q.0, q.1.0, q.1.1)) c.splice.ensures.spliced;
  plain = ok_then c.splice.result (λ made k quoted. plain_within c.args.text.now c.args.value.now c.as_str.result.now (string_bytes c.in_ok-new.new) (string_bytes made) c.args.path.now c.in_ok-place.place c.utf8.text c.as_str.utf8 c.as_str.ensures.value c.in_ok-place.ensures.found (rw c.limit_of-room.ensures at c.in_ok-new.ensures.0.2) (subst (λ z. StaysPlain z c.args.value.now (string_bytes c.in_ok-new.new)) c.collection-collection.ensures.document (c.in_ok-new.ensures.1 quoted)) k) c.splice.ensures.spliced;
  refused = lacking (RefusesInsert c.args.text.now c.args.path.now c.args.key.now c.args.value.now) c.splice.result tt c.splice.ensures.full;
}
