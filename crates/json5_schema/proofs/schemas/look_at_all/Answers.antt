use Rattle.std.proofs.Common.{inl}
use Rattle.std.proofs.lemmas.Result.{err_from_is_err_and}
use Rattle.json5_types.specs.ValueMeanings.{value_of}
use Rattle.json5_schema.specs.Refusals.{IsRefusedFor, IsUntaken}
use Rattle.json5_schema.proofs.Shaping.{any_ok}
use Rattle.json5_schema.proofs.Refusing.{widened}
use Rattle.json5_schema.proofs.schemas.look_at_all.Goals as goal

pub returns-clause-taken : goal.returns-clause-taken
returns-clause-taken c = any_ok c.follow.result c.in_ok-look_strictly.ensures.taken.0

pub returns-clause-known : goal.returns-clause-known
returns-clause-known c = any_ok c.follow.result c.in_ok-look_strictly.ensures.taken.1

pub returns-in_err-look_strictly-clause-refused : goal.returns-in_err-look_strictly-clause-refused
returns-in_err-look_strictly-clause-refused c =
    let (y, is, from) = err_from_is_err_and c.from_residual.result c.from_residual.ensures.1 in
    rw (is, from) (widened _ (IsUntaken c.args.rules (value_of c.args.root.now)) (IsRefusedFor c.args.rules (value_of c.args.root.now)) (λ p k. inl k) c.in_err-look_strictly.ensures.refused)
