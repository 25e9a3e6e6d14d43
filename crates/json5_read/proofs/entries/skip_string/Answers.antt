use Rattle.json5_read.proofs.entries.skip_string.Goals as goal

pub returns : goal.returns
returns g c = rw c.leave_error.ensures c.skip_string.ensures
