use Rattle.std.proofs.Common.{arith}
use Rattle.std.proofs.lemmas.Result.{err_from_is_err_and}
use Rattle.json5_types.specs.ValueMeanings.{fields_view}
use Rattle.json5_schema.specs.RefusalSteps.{IsKeyFault, IsPatternFault}
use Rattle.json5_schema.proofs.Refusing.{key_fault, widened}
use Rattle.json5_schema.proofs.looking.compile_keys.Goals as goal

pub returns-in_err-compile : goal.returns-in_err-compile
returns-in_err-compile c =
    let l = c.loop-name in
    let f = c.loop-name-item.result in
    let (y, is, from) = err_from_is_err_and c.from_residual-in_err-compile.result c.from_residual-in_err-compile.ensures.1 in
    rw (is, from) (widened _ (IsPatternFault c.as_str-key.result.now) (IsKeyFault (fields_view c.args.schemas.now))
    (λ p k. key_fault c.args.schemas.now l.name-index f c.as_str-key.result.now p (omega (arith, c.loop-name-test.true)) c.loop-name-item.is c.as_str-key.ensures.value c.as_str-key.utf8 k) c.in_err-compile.ensures)
