use Rattle.std.proofs.Common.{sym, subst}
use Rattle.std.proofs.lemmas.Result.{err_from_is_err_and}
use Rattle.std.specs.Str.{chars}
use Rattle.json5_edit_values.specs.Spelled.{Spells}
use Rattle.json5_edit_values.proofs.Refused.{push_writing, push_refused}
use Rattle.json5_edit_values.proofs.edits.push_value_in.Goals as goal

pub returns-in_err-new : goal.returns-in_err-new
returns-in_err-new g c =
    let (y, is, from) = err_from_is_err_and c.from_residual.result c.from_residual.ensures.1 in
    rw (is, from) (push_writing (g.T.Serialize.tree c.args.value.now) c.args.text.now c.args.path.now c.in_err-new.field-0.0 c.in_err-new.ensures.refused)

pub returns-in-Ok : goal.returns-in-Ok
returns-in-Ok g c = (c.as_str.result.now, subst (λ z. Spells (g.T.Serialize.tree c.args.value.now) c.args.text.now (chars z)) (sym c.as_str.ensures.value) c.in_ok-new.ensures.value, c.in-Ok.ensures.made)

pub returns : goal.returns
returns g c = push_refused (g.T.Serialize.tree c.args.value.now) c.args.text.now c.args.path.now c.as_str.result.now c.in-Err.error c.placeless.result (subst (λ z. Spells (g.T.Serialize.tree c.args.value.now) c.args.text.now (chars z)) (sym c.as_str.ensures.value) c.in_ok-new.ensures.value) c.in-Err.ensures.refused c.placeless.ensures
