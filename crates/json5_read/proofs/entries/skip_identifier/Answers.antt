use Rattle.json5_read.proofs.entries.skip_identifier.Goals as goal

pub returns : goal.returns
returns g c = rw c.leave_error.ensures c.skip_identifier.ensures
