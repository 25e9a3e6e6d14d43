use Rattle.std.proofs.Common.{rules, refl, Err}
use Rattle.json5_grammar.specs.Model.Collections.{contents}
use Rattle.json5_de.proofs.ListFaults.{closes_there}
use Rattle.json5_de.proofs.ElementLoops.{begins, stops, next_completes, end_completes, next_faults, unopened_completes}
use Rattle.json5_de.proofs.ReaderLoops.{array_from, just_opened, array_opened, array_not_opened, reads_element, element_shortens, at_bracket, all_elements, no_element_left, element_refused, element_fault, element_unprompted, same_text_after_element}
use Rattle.json5_de.proofs.VariantBrackets.{array_closed}
use Rattle.json5_de.proofs.impls.lists.VecDeserialize.deserialize.Goals as goal

pub loop-next-init : goal.loop-next-init
loop-next-init g c = begins g.T.Deserialize.content g.T.Deserialize.convert (just_opened c.open.new.self) c.in_ok-start.start (array_opened c.args.de.now c.open.new.self c.in_ok-start.start c.in_ok-start.ensures) c.new-items.ensures.items

pub loop-next-smaller : goal.loop-next-smaller
loop-next-smaller g c = element_shortens g.T.Deserialize.content g.T.Deserialize.convert g.T.Deserialize.refuses c.in-Some-next.item (rw c.in-Some-next.is at c.in-Some.ensures)

pub loop-next-preserved : goal.loop-next-preserved
loop-next-preserved g c = reads_element g.T.Deserialize.content g.T.Deserialize.convert g.T.Deserialize.refuses c.in-Some-next.item c.loop-next.invariant c.in-Ok.ensures.items (rw c.in-Some-next.is at c.in-Some.ensures)

pub returns-in_err-start-clause-complete : goal.returns-in_err-start-clause-complete
returns-in_err-start-clause-complete g c = unopened_completes _ _ _ c.from_residual.ensures.1 (array_not_opened c.args.de.now c.open.new.self _ c.in_err-start.ensures)

pub returns-in_default-clause-complete : goal.returns-in_default-clause-complete
returns-in_default-clause-complete g c =
    next_completes {U = Unit {0}} g.T.Deserialize.content (contents g.T.Deserialize.convert) c.with_position_at.result (Err c.with_position_at.result) refl (λ ts d e. (d, e)) c.loop-next.invariant
    (element_refused g.T.Deserialize.content g.T.Deserialize.convert g.T.Deserialize.refuses c.in_default.ensures (rw c.set_failed.ensures at c.with_position_at.ensures))

pub returns-in_default-clause-refused : goal.returns-in_default-clause-refused
returns-in_default-clause-refused g c =
    next_faults {U = Unit {0}} g.T.Deserialize.refuses c.with_position_at.result (Err c.with_position_at.result) _ refl c.loop-next.invariant
    (λ live. element_fault g.T.Deserialize.content g.T.Deserialize.convert g.T.Deserialize.refuses c.in_default.ensures (rw c.set_failed.ensures at c.with_position_at.ensures)) (search rules)

pub returns-in_default-clause-unprompted : goal.returns-in_default-clause-unprompted
returns-in_default-clause-unprompted g c = λ live.
    element_unprompted g.T.Deserialize.content g.T.Deserialize.convert g.T.Deserialize.refuses c.in_default.ensures (rw c.set_failed.ensures at c.with_position_at.ensures) c.loop-next.invariant

pub returns-in_default-clause-same_text : goal.returns-in_default-clause-same_text
returns-in_default-clause-same_text g c =
    same_text_after_element g.T.Deserialize.content g.T.Deserialize.convert g.T.Deserialize.refuses c.in_default.ensures (rw c.set_failed.ensures at c.with_position_at.ensures) c.loop-next.invariant c.set_failed.ensures

pub returns-in_err-close_or_fail-clause-complete : goal.returns-in_err-close_or_fail-clause-complete
returns-in_err-close_or_fail-clause-complete g c =
    end_completes g.T.Deserialize.content (contents g.T.Deserialize.convert) _ _ c.from_residual-in_err-close_or_fail.ensures.1 (λ ts d e. (d, e)) c.loop-next.invariant
    (no_element_left g.T.Deserialize.content g.T.Deserialize.convert g.T.Deserialize.refuses _ (rw c.in_default-next.is at c.in-Some.ensures))
    (array_closed (array_from c.take_element.new.self c.in_ok-start.start c.loop-next.comma_due) _ _ c.in_err-close_or_fail.ensures).left

pub returns-in_err-close_or_fail-clause-refused : goal.returns-in_err-close_or_fail-clause-refused
returns-in_err-close_or_fail-clause-refused g c =
    let (at, comma_due) = at_bracket g.T.Deserialize.content g.T.Deserialize.convert g.T.Deserialize.refuses c.in_ok-start.start (rw c.in_default-next.is at c.in-Some.ensures) in
    closes_there (array_from c.loop-next.de c.in_ok-start.start c.loop-next.comma_due) (array_from c.take_element.new.self c.in_ok-start.start c.loop-next.comma_due) _ _ at comma_due
    (array_closed (array_from c.take_element.new.self c.in_ok-start.start c.loop-next.comma_due) _ _ c.in_err-close_or_fail.ensures)

pub returns-clause-sound : goal.returns-clause-sound
returns-clause-sound g c =
    stops c.loop-next.invariant refl
    (λ ts k. (array_closed (array_from c.take_element.new.self c.in_ok-start.start c.loop-next.comma_due) _ _ c.in_ok-close_or_fail.ensures).read c.args.de.now ts
    (all_elements g.T.Deserialize.content g.T.Deserialize.convert g.T.Deserialize.refuses (rw c.in_default-next.is at c.in-Some.ensures) ts k)) (λ ts are. are)
