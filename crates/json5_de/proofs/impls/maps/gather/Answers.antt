use Rattle.std.proofs.Common.{rules, refl, Err, false, ◌∷◌, [], ◌++◌}
use Rattle.json5_grammar.specs.Model.Collections.{pair_contents}
use Rattle.json5_de.specs.MapFaults.{sides}
use Rattle.json5_de.proofs.MemberLoops.{begins, stops, key_completes, value_completes, end_completes, key_faults, value_faults, closes_there}
use Rattle.json5_de.proofs.ReaderLoops.{object_from, just_opened_map, object_opened, object_not_opened, reads_key, reads_value, member_shortens, gives_none, all_members, no_member_left, key_refused, key_fault, key_unprompted, same_text_after_key, value_refused, value_fault, value_unprompted, same_text_after_value}
use Rattle.json5_de.proofs.Structs.{unopened_completes}
use Rattle.json5_de.proofs.VariantBrackets.{object_closed}
use Rattle.json5_de.proofs.impls.maps.gather.Goals as goal

pub loop-next-init : goal.loop-next-init
loop-next-init g c = record {
  pairs = [];
  gathered = c.requires;
  reading = begins g.K.DeserializeKey.content g.V.Deserialize.content g.K.DeserializeKey.convert g.V.Deserialize.convert (just_opened_map c.open.new.self) c.in_ok-start.start (object_opened c.args.de.now c.open.new.self c.in_ok-start.start c.in_ok-start.ensures);
}

pub loop-next-smaller : goal.loop-next-smaller
loop-next-smaller g c =
    member_shortens g.K.DeserializeKey.content g.V.Deserialize.content g.K.DeserializeKey.convert g.V.Deserialize.convert g.K.DeserializeKey.refuses g.V.Deserialize.refuses c.in-Some-next.key c.in-Some-take_member_value.value
    (rw c.in-Some-next.is at c.in-Some.ensures.reads) c.in-Some-take_member_value.ensures.reads

pub loop-next-preserved : goal.loop-next-preserved
loop-next-preserved g c =
    let m = c.loop-next.invariant in
    let key = reads_key g.K.DeserializeKey.content g.V.Deserialize.content g.K.DeserializeKey.convert g.V.Deserialize.convert g.K.DeserializeKey.refuses c.in-Some-next.key m.reading (rw c.in-Some-next.is at c.in-Some.ensures.reads) in
    record {
      pairs = m.pairs ++ (c.in-Some-next.key, c.in-Some-take_member_value.value) ∷ [];
      gathered = c.in-Ok.ensures.put m.pairs m.gathered;
      reading = reads_value g.K.DeserializeKey.content g.V.Deserialize.content g.K.DeserializeKey.convert g.V.Deserialize.convert g.V.Deserialize.refuses c.in-Some-next.key c.in-Some-take_member_value.value key refl c.in-Some-take_member_value.ensures.reads;
    }

pub returns-in_err-start-clause-complete : goal.returns-in_err-start-clause-complete
returns-in_err-start-clause-complete g c = unopened_completes (pair_contents g.K.DeserializeKey.convert g.V.Deserialize.convert) _ _ c.from_residual.ensures.1 (object_not_opened c.args.de.now c.open.new.self _ c.in_err-start.ensures)

pub returns-in_default-clause-complete : goal.returns-in_default-clause-complete
returns-in_default-clause-complete g c =
    key_completes {U = Unit {0}} c.with_position_at.result (Err c.with_position_at.result) refl c.loop-next.invariant.reading
    (key_refused g.K.DeserializeKey.content g.K.DeserializeKey.convert g.K.DeserializeKey.refuses c.in_default.ensures.reads (rw c.set_failed.ensures at c.with_position_at.ensures))

pub returns-in_default-clause-refused : goal.returns-in_default-clause-refused
returns-in_default-clause-refused g c =
    key_faults {U = Unit {0}} (sides g.K.DeserializeKey.convert g.V.Deserialize.convert g.K.DeserializeKey.refuses g.V.Deserialize.refuses) c.with_position_at.result (Err c.with_position_at.result) _ refl c.loop-next.invariant.reading
    (λ live. key_fault g.K.DeserializeKey.content g.K.DeserializeKey.convert g.K.DeserializeKey.refuses c.in_default.ensures.reads (rw c.set_failed.ensures at c.with_position_at.ensures)) (search rules)

pub returns-in_default-clause-unprompted : goal.returns-in_default-clause-unprompted
returns-in_default-clause-unprompted g c = λ live. key_unprompted g.K.DeserializeKey.content g.K.DeserializeKey.convert g.K.DeserializeKey.refuses c.in_default.ensures.reads (rw c.set_failed.ensures at c.with_position_at.ensures) c.loop-next.invariant.reading

pub returns-in_default-clause-same_text : goal.returns-in_default-clause-same_text
returns-in_default-clause-same_text g c = same_text_after_key g.K.DeserializeKey.content g.K.DeserializeKey.convert g.K.DeserializeKey.refuses c.in_default.ensures.reads (rw c.set_failed.ensures at c.with_position_at.ensures) c.loop-next.invariant.reading c.set_failed.ensures

pub returns-in_default-take_member_value-clause-complete : goal.returns-in_default-take_member_value-clause-complete
returns-in_default-take_member_value-clause-complete g c =
    let key = reads_key g.K.DeserializeKey.content g.V.Deserialize.content g.K.DeserializeKey.convert g.V.Deserialize.convert g.K.DeserializeKey.refuses c.in-Some-next.key c.loop-next.invariant.reading (rw c.in-Some-next.is at c.in-Some.ensures.reads) in
    value_completes {U = Unit {0}} c.with_position_at-in_default-take_member_value.result (Err c.with_position_at-in_default-take_member_value.result) c.in-Some-next.key refl key
    (value_refused g.V.Deserialize.content g.V.Deserialize.convert g.V.Deserialize.refuses c.in_default-take_member_value.ensures.reads (rw c.set_failed-in_default-take_member_value.ensures at c.with_position_at-in_default-take_member_value.ensures))

pub returns-in_default-take_member_value-clause-refused : goal.returns-in_default-take_member_value-clause-refused
returns-in_default-take_member_value-clause-refused g c =
    let key = reads_key g.K.DeserializeKey.content g.V.Deserialize.content g.K.DeserializeKey.convert g.V.Deserialize.convert g.K.DeserializeKey.refuses c.in-Some-next.key c.loop-next.invariant.reading (rw c.in-Some-next.is at c.in-Some.ensures.reads) in
    value_faults {U = Unit {0}} (sides g.K.DeserializeKey.convert g.V.Deserialize.convert g.K.DeserializeKey.refuses g.V.Deserialize.refuses) c.with_position_at-in_default-take_member_value.result (Err c.with_position_at-in_default-take_member_value.result) _ c.in-Some-next.key refl key
    (λ live. value_fault g.V.Deserialize.content g.V.Deserialize.convert g.V.Deserialize.refuses c.in_default-take_member_value.ensures.reads (rw c.set_failed-in_default-take_member_value.ensures at c.with_position_at-in_default-take_member_value.ensures)) (search rules)

pub returns-in_default-take_member_value-clause-unprompted : goal.returns-in_default-take_member_value-clause-unprompted
returns-in_default-take_member_value-clause-unprompted g c = λ live.
    let key = reads_key g.K.DeserializeKey.content g.V.Deserialize.content g.K.DeserializeKey.convert g.V.Deserialize.convert g.K.DeserializeKey.refuses c.in-Some-next.key c.loop-next.invariant.reading (rw c.in-Some-next.is at c.in-Some.ensures.reads) in
    value_unprompted g.V.Deserialize.content g.V.Deserialize.convert g.V.Deserialize.refuses c.in_default-take_member_value.ensures.reads (rw c.set_failed-in_default-take_member_value.ensures at c.with_position_at-in_default-take_member_value.ensures) c.in-Some-next.key key

pub returns-in_default-take_member_value-clause-same_text : goal.returns-in_default-take_member_value-clause-same_text
returns-in_default-take_member_value-clause-same_text g c =
    let key = reads_key g.K.DeserializeKey.content g.V.Deserialize.content g.K.DeserializeKey.convert g.V.Deserialize.convert g.K.DeserializeKey.refuses c.in-Some-next.key c.loop-next.invariant.reading (rw c.in-Some-next.is at c.in-Some.ensures.reads) in
    same_text_after_value g.V.Deserialize.content g.V.Deserialize.convert g.V.Deserialize.refuses c.in_default-take_member_value.ensures.reads (rw c.set_failed-in_default-take_member_value.ensures at c.with_position_at-in_default-take_member_value.ensures) c.in-Some-next.key key c.set_failed-in_default-take_member_value.ensures

pub returns-in_err-close_or_fail-clause-complete : goal.returns-in_err-close_or_fail-clause-complete
returns-in_err-close_or_fail-clause-complete g c =
    end_completes _ _ c.from_residual-in_err-close_or_fail.ensures.1 c.loop-next.invariant.reading
    (no_member_left g.K.DeserializeKey.content g.K.DeserializeKey.convert g.K.DeserializeKey.refuses c.in_ok-start.start (rw c.in_default-next.is at c.in-Some.ensures.reads))
    (λ r left. (object_closed (object_from c.take_member_key.new.self c.in_ok-start.start c.loop-next.comma_due false) _ _ c.in_err-close_or_fail.ensures).left r refl left)

pub returns-in_err-close_or_fail-clause-refused : goal.returns-in_err-close_or_fail-clause-refused
returns-in_err-close_or_fail-clause-refused g c =
    let (at, comma_due, none) = gives_none g.K.DeserializeKey.content g.K.DeserializeKey.convert g.K.DeserializeKey.refuses c.in_ok-start.start (rw c.in_default-next.is at c.in-Some.ensures.reads) in
    closes_there (object_from c.loop-next.de c.in_ok-start.start c.loop-next.comma_due false) (object_from c.take_member_key.new.self c.in_ok-start.start c.loop-next.comma_due false) _ _ at
    (object_closed (object_from c.take_member_key.new.self c.in_ok-start.start c.loop-next.comma_due false) _ _ c.in_err-close_or_fail.ensures)

pub returns-clause-sound : goal.returns-clause-sound
returns-clause-sound g c = (
  c.loop-next.invariant.pairs,
  c.loop-next.invariant.gathered,
  stops g.K.DeserializeKey.content g.V.Deserialize.content g.K.DeserializeKey.convert g.V.Deserialize.convert c.loop-next.invariant.reading refl
      (all_members g.K.DeserializeKey.content g.K.DeserializeKey.convert g.K.DeserializeKey.refuses c.in_ok-start.start (rw c.in_default-next.is at c.in-Some.ensures.reads))
      (object_closed (object_from c.take_member_key.new.self c.in_ok-start.start c.loop-next.comma_due false) _ _ c.in_ok-close_or_fail.ensures).read,
)
