use Rattle.std.proofs.Common.{subst, sym, ◌∙◌}
use lib.Pointwise.{bytes_decides}
use Rattle.json5_lexemes.specs.Plain.{PlainText}
use Rattle.json5_convert.specs.Respelled.{IsMade}
use Rattle.json5_convert.proofs.PlainKept.{stays}
use Rattle.json5_convert.proofs.MadeAnew.{unchanged}
use Rattle.json5_convert.proofs.respelled.made.Goals as goal

pub returns-then-is_plain_with : goal.returns-then-is_plain_with
returns-then-is_plain_with c =
    let (t, d) = c.in_ok-check_document.ensures.sound in
    subst (IsMade c.args.spelling c.args.text.now) (sym c.in_ok-from_str.ensures.ok) (stays c.args.spelling c.args.text.now t d (subst (λ k. PlainText k c.args.text.now) c.has_comments.ensures (c.is_plain_with.ensures.0 c.if-is_plain_with.true)))

pub returns-then-eq : goal.returns-then-eq
returns-then-eq c =
    let (t, d) = c.in_ok-made.ensures.0 in
    let same = (bytes_decides c.as_str.result.now c.args.text.now).0 (sym c.eq.ensures ∙ c.if-eq.true) in
    subst (IsMade c.args.spelling c.args.text.now) (sym same ∙ c.as_str.ensures.value) (unchanged c.args.spelling c.args.text.now t d (sym c.has_comments-2.ensures ∙ c.if-has_comments.true) (sym c.has_json_numbers.ensures ∙ c.if-not-has_json_numbers.true))
