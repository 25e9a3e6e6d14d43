use Rattle.std.proofs.lemmas.Result.{err_from_is_err_and}
use Rattle.json5_tokens.proofs.NumberSteps.{fault_wants}
use Rattle.json5_tokens.proofs.numbers.read_number.Goals as goal

pub returns-in_err-scanned : goal.returns-in_err-scanned
returns-in_err-scanned c =
    let p = err_from_is_err_and c.from_residual.result c.from_residual.ensures.1 in
    let refusal = c.in_err-scanned.ensures in
    rw (p.1, p.2) (record { refused = refusal.refused; memory = fault_wants c.in_err-scanned.field-0.0 _ refusal.known })
