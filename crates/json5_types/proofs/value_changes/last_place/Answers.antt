use Rattle.std.proofs.Common.{◌-◌, ◌∙◌, false, arith, sym, ap, string_bytes}
use Rattle.std.specs.Str.{chars}
use Rattle.json5_types.proofs.LookedUp.{same_key}
use Rattle.json5_types.proofs.MembersPlaced.{passed}
use Rattle.json5_types.proofs.value_changes.last_place.Goals as goal

pub loop-end-preserved : goal.loop-end-preserved
loop-end-preserved c =
    let l = c.loop-end in
    let f = c.index-fields-end.result in
    let other = same_key c.as_str.result.now c.args.key.now f c.eq.result false c.as_str.utf8 c.utf8.key (c.as_str.ensures.value ∙ ap (λ m. string_bytes m.0) (sym c.index-fields-end.is)) c.eq.ensures c.if-eq.false in
    (omega arith, passed (chars c.args.key.now) c.args.fields.now (l.end - 1) l.end f (omega arith) (omega arith) c.index-fields-end.is l.invariant.1 other)
