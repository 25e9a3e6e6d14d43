use Rattle.std.proofs.lemmas.Result.{err_from_is_err_and}
use Rattle.json5_types.specs.ValueMeanings.{value_of}
use Rattle.json5_schema.specs.Refusals.{IsRefusedBy}
use Rattle.json5_schema.specs.RefusalSteps.{IsOfOldDraft}
use Rattle.json5_schema.proofs.Refusing.{old_refused, widened}
use Rattle.json5_schema.proofs.schemas.Schema.of.Goals as goal

pub returns-in_err-counts-clause-refused : goal.returns-in_err-counts-clause-refused
returns-in_err-counts-clause-refused c =
    let (y, is, from) = err_from_is_err_and c.from_residual.result c.from_residual.ensures.1 in
    rw (is, from) (widened _ (IsOfOldDraft (value_of c.args.root)) (IsRefusedBy c.args.is_strict (value_of c.args.root)) (old_refused c.args.is_strict (value_of c.args.root)) c.in_err-counts.ensures.refused)
