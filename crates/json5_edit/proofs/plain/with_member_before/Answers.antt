use Rattle.std.proofs.Common.{◌∙◌, subst, sym}
use Rattle.std.specs.Str.{chars}
use Rattle.json5_styles.specs.Json.{JsonString}
use Rattle.json5_edit.specs.Pieces.{SpellsKey}
use Rattle.json5_edit.proofs.Placed.{ok_then}
use Rattle.json5_edit.proofs.MembersBefore.{member_before}
use Rattle.json5_edit.proofs.PlainlyEdited.{boundary_there, front_there, rest_there}
use Rattle.json5_edit.proofs.plain.with_member_before.Goals as goal

pub split_at-requires : goal.split_at-requires
split_at-requires c = boundary_there c.utf8.old c.requires.1.spot

pub returns : goal.returns
returns c =
    ok_then c.join_five.result (λ made k. member_before c.args.before c.args.room c.args.start c.args.old.now _ c.split_at.result.0.now c.split_at.result.1.now c.args.key.now c.as_str.result.now c.as_str-2.result.now c.args.value.now c.requires.0 c.utf8.old c.as_str.utf8 c.as_str-2.utf8 c.utf8.value (subst (SpellsKey c.args.key.now) (sym c.as_str.ensures.value) c.in_ok-key.ensures.spelled) (subst (λ x. JsonString (chars x)) (sym c.as_str.ensures.value) c.in_ok-key.ensures.plain) (c.as_str-2.ensures.value ∙ c.in_ok-name.ensures) c.requires.1
    (c.split_at.ensures.front ∙ front_there c.utf8.old c.requires.1.spot)
    (c.split_at.ensures.back ∙ rest_there c.utf8.old c.requires.1.spot)
    c.requires.2 k) c.join_five.ensures
