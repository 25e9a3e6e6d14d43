use Rattle.json5_read.specs.BuildSteps.{object_at}
use Rattle.json5_read.proofs.BuildTurns.{turn_lacks_memory, member_next, members_end, members_refused}
use Rattle.json5_read.proofs.unfinished.resume_object.Goals as goal

pub returns-in_err-add_entry-in-Some-Some : goal.returns-in_err-add_entry-in-Some-Some
returns-in_err-add_entry-in-Some-Some g c =
    rw c.from_residual.ensures (turn_lacks_memory (object_at c.args.members.items c.args.comma_due c.args.scanner.now) c.args.start c.args.comma_due c.args.stack.now.items c.args.scanner.now c.add_entry.new.entries.items c.take_members.new.scanner c.add_entry.new.fault
    c.in_err-add_entry-in-Some-Some.ensures.kind c.in-Some-Some.ensures.same_text)

pub returns-in_ok-add_entry-in-Some-Some : goal.returns-in_ok-add_entry-in-Some-Some
returns-in_ok-add_entry-in-Some-Some g c =
    member_next c.args.members.items c.take_members.new.members c.args.start c.args.comma_due c.args.stack.now.items c.args.scanner.now c.take_members.new.scanner c.in-Some-Some.key c.in-Some-Some.kind c.add_entry.new.entries.items (rw c.in-Some-Some.field-0-is at c.in-Some-Some.ensures) c.in_ok-add_entry-in-Some-Some.ensures

pub returns-in-Some-None : goal.returns-in-Some-None
returns-in-Some-None g c = members_end c.args.members.items c.take_members.new.members c.args.start c.args.comma_due c.args.stack.now.items c.args.scanner.now c.take_members.new.scanner (rw c.in-Some-None.field-0-is at c.in-Some-None.ensures)

pub returns-in-None : goal.returns-in-None
returns-in-None g c =
    members_refused c.args.members.items c.take_members.new.members c.args.start c.args.comma_due c.args.stack.now.items c.args.scanner.now c.take_members.new.scanner c.take_members.new.fault c.place_fault.new.fault c.in-None.ensures c.place_fault.ensures
