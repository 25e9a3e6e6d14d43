use Rattle.std.proofs.Common.{refl, string_bytes}
use Rattle.std.specs.Prelude.{⊤}
use Rattle.std.proofs.lemmas.Result.{err_from_is_err_and}
use Rattle.json5_read.specs.declared.brackets.BracketKind.TheVariants as kind
use Rattle.json5_edit.specs.Refusals.{RefusesSort}
use Rattle.json5_edit.specs.Sorted.{HasMembersSorted}
use Rattle.json5_edit.proofs.Placed.{ok_then}
use Rattle.json5_edit.proofs.PlainCuts.{keeps_within}
use Rattle.json5_edit.proofs.Changed.{has_place, is_small, changed_within, not_edited}
use Rattle.json5_edit.proofs.Refused.{lacking, own, path_sort, reaches_no}
use Rattle.json5_edit.proofs.sorting.sort.Goals as goal

pub limit_of-room-requires : goal.limit_of-room-requires
limit_of-room-requires c = is_small c.in_ok-place.ensures.found

pub splice-requires : goal.splice-requires
splice-requires c = has_place c.in_ok-place.ensures.found

pub returns-in_err-place : goal.returns-in_err-place
returns-in_err-place c =
    let (y, is, from) = err_from_is_err_and c.from_residual.result c.from_residual.ensures.1 in
    rw (is, from) (not_edited (path_sort c.args.text.now c.args.path.now c.in_err-place.field-0.0 c.in_err-place.ensures.refused))

pub returns-then-not-begins : goal.returns-then-not-begins
returns-then-not-begins c = not_edited (reaches_no c.args.text.now c.part_text-old.result.now c.args.path.now c.in_ok-place.place c.utf8.text c.in_ok-place.ensures.found c.part_text-old.ensures kind.Object (c.if-not-begins.ensures refl))

pub returns-in_err-new : goal.returns-in_err-new
returns-in_err-new c =
    let (y, is, from) = err_from_is_err_and c.from_residual-in_err-new.result c.from_residual-in_err-new.ensures.1 in
    rw is (not_edited (own (RefusesSort c.args.text.now c.args.path.now) y tt tt from))

pub returns : goal.returns
returns c = record {
  made = ok_then c.splice.result (λ made k.
      let m = rw c.limit_of-room.ensures at c.in_ok-new.ensures in
      let q = changed_within (λ x y. ⊤) HasMembersSorted c.args.text.now c.part_text-old.result.now c.as_str.result.now (string_bytes c.in_ok-new.new) (string_bytes made) c.args.path.now c.in_ok-place.place c.utf8.text c.as_str.utf8 c.as_str.ensures.value c.in_ok-place.ensures.found c.part_text-old.ensures (m.0, tt, m.1) k in
      q.0) c.splice.ensures.spliced;
  plain = ok_then c.splice.result (λ made k.
      let m = rw c.limit_of-room.ensures at c.in_ok-new.ensures in
      keeps_within c.args.text.now c.part_text-old.result.now c.as_str.result.now (string_bytes c.in_ok-new.new) (string_bytes made) c.args.path.now c.in_ok-place.place c.utf8.text c.as_str.utf8 c.as_str.ensures.value c.in_ok-place.ensures.found c.part_text-old.ensures m.1 m.2 k) c.splice.ensures.spliced;
  refused = lacking (RefusesSort c.args.text.now c.args.path.now) c.splice.result tt c.splice.ensures.full;
}
