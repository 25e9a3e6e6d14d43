use Rattle.std.proofs.Common.{[], ◌∷◌, ◌∙◌}
use Rattle.std.specs.Str.{chars}
use Rattle.json5_tokens.specs.ScanTexts.{quote_of}
use Rattle.json5_tokens.proofs.TextTokens.{string_body, borrowed_fits, body_fits, gives_token}
use Rattle.json5_tokens.proofs.ScanTokens.{left_counted}
use Rattle.json5_tokens.proofs.strings.read_string_token.Goals as goal

pub new-requires-clause-inside : goal.new-requires-clause-inside
new-requires-clause-inside c =
    let opened = c.in_ok-quote.ensures in
    body_fits (quote_of c.in_ok-quote.quote) c.args.end c.args.text.now c.in_ok-quote.body.now c.utf8.text opened.text opened.split c.requires

pub new-requires-clause-fits : goal.new-requires-clause-fits
new-requires-clause-fits c =
    let opened = c.in_ok-quote.ensures in
    let given = c.in_ok-string.ensures in
    borrowed_fits c.in_ok-string.string c.in_ok-quote.body.now opened.text given.is_text
    (string_body (quote_of c.in_ok-quote.quote) (chars c.args.text.now) (chars c.in_ok-quote.body.now) given.spelled (chars c.in_ok-string.rest.now) given.escape_free opened.split (opened.read ∙ given.read))

pub returns : goal.returns
returns c =
    let opened = c.in_ok-quote.ensures in
    let given = c.in_ok-string.ensures in
    let q = quote_of c.in_ok-quote.quote in
    gives_token c.args.end _ c.new.result c.in_ok-string.string (q ∷ []) (chars c.args.text.now) (chars c.in_ok-quote.body.now) c.in_ok-string.rest.now opened.split opened.read given
    (string_body q (chars c.args.text.now) (chars c.in_ok-quote.body.now) given.spelled (chars c.in_ok-string.rest.now) given.escape_free opened.split (opened.read ∙ given.read))
    (left_counted c.in_ok-quote.body.now opened.text) c.new.ensures
