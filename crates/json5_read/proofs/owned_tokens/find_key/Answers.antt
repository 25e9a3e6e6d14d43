use Rattle.json5_read.proofs.owned_tokens.find_key.Goals as goal

pub returns : goal.returns
returns g c = rw c.leave_error.ensures c.key.ensures
