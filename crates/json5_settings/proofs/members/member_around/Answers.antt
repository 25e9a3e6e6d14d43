use Rattle.std.proofs.Common.{◌∙◌, ap}
use Rattle.std.specs.Str.{chars}
use Rattle.json5_settings.proofs.MembersMade.{member_chars, ok_map}
use Rattle.json5_settings.proofs.members.member_around.Goals as goal

pub returns-in-Ok : goal.returns-in-Ok
returns-in-Ok c =
    let key = c.as_str.result.now in
    ok_map c.in_braces.result (λ s k. member_chars (chars c.args.key.now) key c.args.value.now _ c.as_str.utf8 c.utf8.value (ap chars c.as_str.ensures.value ∙ c.in-Ok.ensures.spelled) k) c.in_braces.ensures
