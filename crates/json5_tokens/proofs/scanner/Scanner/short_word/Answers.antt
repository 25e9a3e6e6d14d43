use Rattle.std.proofs.Common.{sym, ◌∙◌}
use Rattle.std.specs.Str.{chars}
use Rattle.json5_tokens.proofs.ScanTokens.{left_counted, leaves_rest}
use Rattle.json5_tokens.proofs.scanner.Scanner.short_word.Goals as goal

pub set_remaining-requires : goal.set_remaining-requires
set_remaining-requires g c =
    let found = c.in-Some.ensures in
    leaves_rest (chars c.args.word.now) c.in-Some.rest.now (sym c.rest.ensures ∙ found.split) found.text_rest

pub returns : goal.returns
returns g c =
    let found = c.in-Some.ensures in
    let r = c.in-Some.rest.now in
    let l = c.set_remaining.ensures (chars c.args.word.now) (chars r) (sym c.rest.ensures ∙ found.split) (left_counted r found.text_rest) in
    l.0
