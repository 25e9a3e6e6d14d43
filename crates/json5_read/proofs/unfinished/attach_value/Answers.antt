use Rattle.std.proofs.Common.{refl}
use Rattle.json5_read.specs.BuildSteps.{start_of, value_in_at}
use Rattle.json5_read.specs.ModelSteps.{answered}
use Rattle.json5_read.proofs.BuildTurns.{turn_lacks_memory, element_attached, member_attached}
use Rattle.json5_read.proofs.unfinished.attach_value.Goals as goal

pub returns-in_err-add_entry-in-Array : goal.returns-in_err-add_entry-in-Array
returns-in_err-add_entry-in-Array g c =
    rw c.from_residual.ensures (turn_lacks_memory (value_in_at c.args.unfinished c.args.value c.args.scanner.now) (start_of c.args.unfinished) _ c.args.stack.now.items c.args.scanner.now c.args.stack.now.items c.args.scanner.now c.add_entry.new.fault
    c.in_err-add_entry-in-Array.ensures.kind refl)

pub returns-in_ok-add_entry-in-Array : goal.returns-in_ok-add_entry-in-Array
returns-in_ok-add_entry-in-Array g c =
    element_attached c.args.unfinished c.in-Array.start c.in-Array.elements c.add_entry.new.entries c.args.value c.args.stack.now.items c.resume_array.new.stack.items c.args.scanner.now c.resume_array.new.scanner (answered c.resume_array.result c.resume_array.new.fault) c.in-Array.is
    c.in_ok-add_entry-in-Array.ensures c.resume_array.ensures

pub returns-in_err-add_entry-in-Object : goal.returns-in_err-add_entry-in-Object
returns-in_err-add_entry-in-Object g c =
    rw c.from_residual-in_err-add_entry-in-Object.ensures (turn_lacks_memory (value_in_at c.args.unfinished c.args.value c.args.scanner.now) (start_of c.args.unfinished) _ c.args.stack.now.items c.args.scanner.now c.args.stack.now.items c.args.scanner.now c.add_entry-in-Object.new.fault
    c.in_err-add_entry-in-Object.ensures.kind refl)

pub returns-in_ok-add_entry-in-Object : goal.returns-in_ok-add_entry-in-Object
returns-in_ok-add_entry-in-Object g c =
    member_attached c.args.unfinished c.in-Object.start c.in-Object.members c.add_entry-in-Object.new.entries c.in-Object.key c.args.value c.args.stack.now.items c.resume_object.new.stack.items c.args.scanner.now c.resume_object.new.scanner (answered c.resume_object.result c.resume_object.new.fault) c.in-Object.is
    c.in_ok-add_entry-in-Object.ensures c.resume_object.ensures
