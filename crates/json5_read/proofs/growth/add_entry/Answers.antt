use Rattle.json5_read.proofs.growth.add_entry.Goals as goal

pub returns-then-not-make_room : goal.returns-then-not-make_room
returns-then-not-make_room g c = record { kind = c.leave_code.ensures.kind; place = c.leave_code.ensures.place }
