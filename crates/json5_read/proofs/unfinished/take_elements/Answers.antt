use Rattle.std.proofs.Common.{rules, refl}
use Rattle.json5_grammar.specs.Faults.Fronts.{of_array}
use Rattle.json5_read.proofs.TakenElements.{bracket_left, array_ended, entry_refused, value_refused, memory_lost, element_taken, goes_down}
use Rattle.json5_read.proofs.EntryValues.{element_reached, next_closed}
use Rattle.json5_read.proofs.ModelSteps.{ready_next}
use Rattle.json5_read.proofs.unfinished.take_elements.Goals as goal

pub returns-in_err-more : goal.returns-in_err-more
returns-in_err-more g c =
    let l = c.loop-more in
    rw c.from_residual.ensures (entry_refused c.args.comma_due c.args.elements.now.items c.args.scanner.now l.elements.items l.due l.scanner l.invariant c.next_entry.new.scanner c.next_entry.new.fault c.in_err-more.ensures)

pub returns-then-not-more : goal.returns-then-not-more
returns-then-not-more g c =
    let l = c.loop-more in
    let mid = c.next_entry.new.scanner in
    array_ended c.args.comma_due c.args.elements.now.items c.args.scanner.now l.elements.items l.due l.scanner l.invariant mid (next_closed of_array l.due c.in_ok-more.more l.scanner mid c.if-not-more.true c.in_ok-more.ensures.given).given

pub begin_value-requires : goal.begin_value-requires
begin_value-requires g c = ready_next c.loop-more.scanner c.next_entry.new.scanner c.loop-more.invariant.ready c.in_ok-more.ensures.given

pub returns-in_err-value : goal.returns-in_err-value
returns-in_err-value g c =
    let l = c.loop-more in
    let mid = c.next_entry.new.scanner in
    let g = (element_reached of_array l.due c.in_ok-more.more l.scanner mid refl c.if-not-more.false c.in_ok-more.ensures.given).given in
    rw c.from_residual-in_err-value.ensures (value_refused c.args.comma_due c.args.elements.now.items c.args.scanner.now l.elements.items l.due l.scanner l.invariant mid c.begin_value.new.scanner c.begin_value.new.fault g c.in_err-value.ensures)

pub returns-then-is_err : goal.returns-then-is_err
returns-then-is_err g c =
    let l = c.loop-more in
    let mid = c.next_entry.new.scanner in
    let g = (element_reached of_array l.due c.in_ok-more.more l.scanner mid refl c.if-not-more.false c.in_ok-more.ensures.given).given in
    memory_lost c.args.comma_due c.args.elements.now.items c.args.scanner.now l.elements.items l.due l.scanner l.invariant mid c.begin_value.new.scanner c.in-Ended.value c.push.new.self.items c.leave_code.new.fault c.leave_code.ensures.kind g (rw c.in-Ended.is at c.in_ok-value.ensures.begun)

pub returns-in-Opens : goal.returns-in-Opens
returns-in-Opens g c =
    let l = c.loop-more in
    let mid = c.next_entry.new.scanner in
    let g = (element_reached of_array l.due c.in_ok-more.more l.scanner mid refl c.if-not-more.false c.in_ok-more.ensures.given).given in
    bracket_left c.args.comma_due c.args.elements.now.items c.args.scanner.now l.elements.items l.due l.scanner l.invariant mid c.begin_value.new.scanner c.in-Opens.kind g (rw c.in-Opens.is at c.in_ok-value.ensures.begun)

pub loop-more-smaller : goal.loop-more-smaller
loop-more-smaller g c =
    let l = c.loop-more in
    let mid = c.next_entry.new.scanner in
    let g = (element_reached of_array l.due c.in_ok-more.more l.scanner mid refl c.if-not-more.false c.in_ok-more.ensures.given).given in
    goes_down c.args.comma_due c.args.elements.now.items c.args.scanner.now l.elements.items l.due l.scanner l.invariant mid c.begin_value.new.scanner c.in-Ended.value g (rw c.in-Ended.is at c.in_ok-value.ensures.begun)

pub loop-more-preserved : goal.loop-more-preserved
loop-more-preserved g c =
    let l = c.loop-more in
    let mid = c.next_entry.new.scanner in
    let g = (element_reached of_array l.due c.in_ok-more.more l.scanner mid refl c.if-not-more.false c.in_ok-more.ensures.given).given in
    element_taken c.args.comma_due c.args.elements.now.items c.args.scanner.now l.elements.items l.due l.scanner l.invariant mid c.begin_value.new.scanner c.in-Ended.value c.push.new.self.items g (rw c.in-Ended.is at c.in_ok-value.ensures.begun) (search (rules))
