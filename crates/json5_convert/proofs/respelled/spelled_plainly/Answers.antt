use Rattle.std.proofs.Common.{refl, subst}
use Rattle.json5_lexemes.specs.Plain.{PlainText}
use Rattle.json5_convert.specs.Respelled.{IsAsPlain}
use Rattle.json5_convert.proofs.respelled.spelled_plainly.Goals as goal

pub returns-then-is_plain_with : goal.returns-then-is_plain_with
returns-then-is_plain_with c =
    let plain = subst (λ k. PlainText k c.as_str.result.now) c.has_comments.ensures (c.is_plain_with.ensures.0 c.if-is_plain_with.true) in
    (c.in_ok-made.ensures, subst (IsAsPlain c.args.spelling) c.as_str.ensures.value (λ h. plain))

pub returns-then-is_as_plain : goal.returns-then-is_as_plain
returns-then-is_as_plain c = (c.in_ok-made-2.ensures, subst (IsAsPlain c.args.spelling) c.as_str-2.ensures.value (c.if-is_as_plain.ensures refl))
