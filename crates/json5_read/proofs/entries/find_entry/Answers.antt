use Rattle.json5_read.proofs.entries.find_entry.Goals as goal

pub returns : goal.returns
returns g c = rw c.leave_error.ensures c.advance_to_entry.ensures
