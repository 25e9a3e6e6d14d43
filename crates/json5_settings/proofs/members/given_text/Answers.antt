use Rattle.std.specs.Prelude.{string_bytes}
use Rattle.std.specs.Str.{chars}
use Rattle.json5_settings.specs.MemberTexts.{IsNoDocument}
use Rattle.json5_settings.specs.Stacks.{IsDocument}
use Rattle.json5_settings.proofs.MembersMade.{given_as, given_text, judged_not, judged_so, ok_map}
use Rattle.json5_settings.proofs.members.given_text.Goals as goal

pub returns-then-branch : goal.returns-then-branch
returns-then-branch c =
    let value = c.args.value.now in
    let (t, document) = judged_so (IsDocument value) (IsNoDocument (chars value)) c.in_ok-is_document.field-0 c.if-branch.true c.in_ok-is_document.ensures in
    ok_map c.closed.result (λ s k. given_as value (string_bytes s) t c.utf8.value document k) c.closed.ensures

pub returns-in-Ok : goal.returns-in-Ok
returns-in-Ok c =
    let value = c.args.value.now in
    let none = judged_not (IsDocument value) (IsNoDocument (chars value)) c.in_ok-is_document.field-0 c.if-branch.false c.in_ok-is_document.ensures in
    given_text (chars value) (chars (string_bytes c.in-Ok.text)) none c.in-Ok.ensures.spelled
