use Rattle.std.proofs.Common.{inl, inr}
use Rattle.std.proofs.lemmas.Result.{err_from_is_err_and}
use Rattle.json5_settings.proofs.saving.update.Goals as goal

pub returns-in_err-before-clause-refused : goal.returns-in_err-before-clause-refused
returns-in_err-before-clause-refused c =
    let (y, is, from) = err_from_is_err_and c.from_residual.result c.from_residual.ensures.1 in
    rw (is, from) (record { cause = inr (inl c.in_err-before.ensures.refused); complete = λ t d f. c.in_err-before.ensures.complete t d })
