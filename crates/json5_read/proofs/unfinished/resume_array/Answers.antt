use Rattle.json5_read.specs.BuildSteps.{array_at}
use Rattle.json5_read.proofs.BuildTurns.{turn_lacks_memory, element_next, elements_end, elements_refused}
use Rattle.json5_read.proofs.unfinished.resume_array.Goals as goal

pub returns-in_err-add_entry-in-Some-Some : goal.returns-in_err-add_entry-in-Some-Some
returns-in_err-add_entry-in-Some-Some g c =
    rw c.from_residual.ensures (turn_lacks_memory (array_at c.args.elements.items c.args.comma_due c.args.scanner.now) c.args.start c.args.comma_due c.args.stack.now.items c.args.scanner.now c.add_entry.new.entries.items c.take_elements.new.scanner c.add_entry.new.fault
    c.in_err-add_entry-in-Some-Some.ensures.kind c.in-Some-Some.ensures.same_text)

pub returns-in_ok-add_entry-in-Some-Some : goal.returns-in_ok-add_entry-in-Some-Some
returns-in_ok-add_entry-in-Some-Some g c =
    element_next c.args.elements.items c.take_elements.new.elements c.args.start c.args.comma_due c.args.stack.now.items c.args.scanner.now c.take_elements.new.scanner c.in-Some-Some.kind c.add_entry.new.entries.items (rw c.in-Some-Some.field-0-is at c.in-Some-Some.ensures) c.in_ok-add_entry-in-Some-Some.ensures

pub returns-in-Some-None : goal.returns-in-Some-None
returns-in-Some-None g c = elements_end c.args.elements.items c.take_elements.new.elements c.args.start c.args.comma_due c.args.stack.now.items c.args.scanner.now c.take_elements.new.scanner (rw c.in-Some-None.field-0-is at c.in-Some-None.ensures)

pub returns-in-None : goal.returns-in-None
returns-in-None g c =
    elements_refused c.args.elements.items c.take_elements.new.elements c.args.start c.args.comma_due c.args.stack.now.items c.args.scanner.now c.take_elements.new.scanner c.take_elements.new.fault c.place_fault.new.fault c.in-None.ensures c.place_fault.ensures
