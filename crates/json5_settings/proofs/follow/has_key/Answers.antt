use Rattle.std.specs.Prelude.{false}
use Rattle.std.specs.Str.{chars}
use Rattle.json5_types.proofs.LookedUp.{same_key}
use Rattle.json5_settings.proofs.Followed.{key_behind}
use Rattle.json5_settings.proofs.follow.has_key.Goals as goal

pub loop-name-preserved : goal.loop-name-preserved
loop-name-preserved c =
    let f = c.in-Some.field-0-0.now in
    let other = same_key c.as_str.result.now c.args.key.now f c.eq.result false c.as_str.utf8 c.utf8.key c.as_str.ensures.value c.eq.ensures c.if-eq.false in
    key_behind (chars c.args.key.now) c.loop-name.rest.now c.in-Some.behind.now f _ c.in-Some.ensures.cases.0 other c.loop-name.invariant
