use Rattle.std.proofs.Common.{◌≡◌, ◌-◌, sym, subst, arith}
use Rattle.std.specs.Str.{chars}
use Rattle.json5_edit.specs.Places.{IsValue}
use Rattle.json5_edit.specs.Refusals.{RefusesValue}
use Rattle.json5_edit.proofs.Placed.{ok_then}
use Rattle.json5_edit.proofs.Refused.{err_then}
use Rattle.json5_edit.proofs.setting.put.Goals as goal

pub limit_of-requires : goal.limit_of-requires
limit_of-requires c = c.requires.small

pub returns-in-Ok-clause-puts : goal.returns-in-Ok-clause-puts
returns-in-Ok-clause-puts c =
    let same : c.limit_of.result - 0 ≡ c.args.place.room = omega (arith, c.limit_of.ensures) in
    ok_then c.splice.result (λ made k. (c.utf8.new, subst (λ n. IsValue n (chars c.args.new.now)) same c.in-Ok.ensures.value, k)) c.splice.ensures.spliced

pub returns-in-Ok-clause-refused : goal.returns-in-Ok-clause-refused
returns-in-Ok-clause-refused c = err_then c.splice.result (λ e k. subst (RefusesValue c.args.place.room c.args.new.now) (sym k) tt) c.splice.ensures.full

pub returns-in-Err-clause-refused : goal.returns-in-Err-clause-refused
returns-in-Err-clause-refused c =
    let same : c.limit_of.result - 0 ≡ c.args.place.room = omega (arith, c.limit_of.ensures) in
    c.of_value.ensures c.args.place.room c.args.new.now (subst (λ n. IsValue n (chars c.args.new.now) → ⊥) same c.in-Err.ensures.refused)
