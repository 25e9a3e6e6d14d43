use Rattle.std.proofs.Common.{◌∷◌}
use Rattle.std.specs.Prelude.{string_bytes}
use Rattle.std.specs.Str.{chars}
use Rattle.json5_settings.proofs.MembersMade.{keys_joined, nested_more}
use Rattle.json5_settings.proofs.members.member_text.Goals as goal

pub loop-key-preserved : goal.loop-key-preserved
loop-key-preserved c =
    let l = c.loop-key in
    let key = c.in-Some.key.now in (
      chars (string_bytes key) ∷ l.invariant.0,
      keys_joined c.in-Some.outer.now key l.left.now l.invariant.0 _ l.invariant.1 c.in-Some.ensures.cases.0,
      nested_more l.invariant.0 key l.text (chars c.args.value.now) _ c.deref.result.now c.deref-in-Some.result.now c.deref.ensures c.deref-in-Some.ensures c.in_ok-text-2.ensures l.invariant.2,
    )
