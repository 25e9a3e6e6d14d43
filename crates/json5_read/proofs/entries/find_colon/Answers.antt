use Rattle.json5_read.proofs.entries.find_colon.Goals as goal

pub returns : goal.returns
returns g c = rw c.leave_error.ensures c.pass_colon.ensures
