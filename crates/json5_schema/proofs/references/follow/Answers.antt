use Rattle.std.proofs.lemmas.Result.{err_from_is_err_and}
use Rattle.json5_types.specs.ValueMeanings.{value_of}
use Rattle.json5_schema.specs.Refusals.{IsRefusedFor}
use Rattle.json5_schema.specs.RefusalSteps.{IsOfReference}
use Rattle.json5_schema.proofs.Refusing.{of_reference, widened}
use Rattle.json5_schema.proofs.references.follow.Goals as goal

pub returns-in_err-nexts : goal.returns-in_err-nexts
returns-in_err-nexts c =
    let (y, is, from) = err_from_is_err_and c.from_residual.result c.from_residual.ensures.1 in
    let root = value_of c.args.root.now in
    rw (is, from) (widened _ (IsOfReference c.args.rules root) (IsRefusedFor c.args.rules root) (of_reference c.args.rules root) c.in_err-nexts.ensures)
