use Rattle.std.proofs.Common.{subst, sym}
use Rattle.std.specs.Str.{chars}
use Rattle.json5_settings.specs.Keys.{key_texts}
use Rattle.json5_settings.specs.MemberTexts.{IsNested}
use Rattle.json5_settings.proofs.MembersMade.{put}
use Rattle.json5_settings.proofs.layers.Layers.add_member.Goals as goal

pub returns : goal.returns
returns c =
    let nested = subst (λ z. IsNested (key_texts c.args.keys.now) (chars c.args.value.now) (chars z)) (sym c.deref.ensures) c.in_ok-text.ensures in
    put c.args.name.now (key_texts c.args.keys.now) c.args.value.now c.deref.result.now _ _ c.add.result nested c.add.ensures.document c.add.ensures.added c.add.ensures.refused c.add.ensures.fault
