use Rattle.std.proofs.Common.{false, subst}
use Rattle.std.specs.Str.{chars}
use Rattle.json5_convert.specs.SpelledAnew.{SpelledAnew}
use Rattle.json5_convert.proofs.MadeAnew.{made_so}
use Rattle.json5_convert.proofs.respelled.check_made.Goals as goal

pub returns : goal.returns
returns c =
    let (t, d) = c.requires.document in
    let (u, e) = c.in_ok-check_document.ensures.sound in
    let anew = subst (λ z. SpelledAnew z false (chars c.args.text.now) (chars c.args.made.now)) c.has_comments.ensures c.in_ok-check_spelled_anew.ensures in
    made_so c.args.spelling c.args.text.now c.args.made.now t u d e anew c.in_ok-check_numbers.ensures c.requires.plain
