use Rattle.std.proofs.Common.{[], refl, ap, sym}
use Rattle.std.specs.Str.{chars}
use Rattle.std.proofs.lemmas.Result.{err_from_is_err_and}
use Rattle.json5_tokens.specs.Outcome.{outcome}
use Rattle.json5_tokens.proofs.ScanKeys.{key_none, key_string, key_name}
use Rattle.json5_tokens.proofs.TextTokens.{name_body, borrowed_fits, gives_token}
use Rattle.json5_tokens.proofs.ScanTokens.{left_counted}
use Rattle.json5_tokens.proofs.names.read_key.Goals as goal

pub returns-in_default : goal.returns-in_default
returns-in_default c = record { refused = ap outcome (key_none _ c.in_default.ensures); memory = λ e. absurd (cc) }

pub returns-in_err-name : goal.returns-in_err-name
returns-in_err-name c =
    let p = err_from_is_err_and c.from_residual.result c.from_residual.ensures.1 in
    let same = key_name c.in-Some.c (chars c.args.text.now) _ c.in-Some.ensures.chars (sym c.if-is_quote.ensures) in
    rw (p.1, p.2, same) c.in_err-name.ensures

pub returns-then-is_quote : goal.returns-then-is_quote
returns-then-is_quote c = rw (key_string c.in-Some.c (chars c.args.text.now) _ c.in-Some.ensures.chars (sym c.if-is_quote.ensures)) c.read_string_token.ensures

pub new-requires-clause-fits : goal.new-requires-clause-fits
new-requires-clause-fits c =
    let given = c.in_ok-name.ensures in
    borrowed_fits c.in_ok-name.name c.args.text.now c.utf8.text given.is_text
    (name_body (chars c.args.text.now) given.spelled (chars c.in_ok-name.rest.now) given.escape_free given.read)

pub returns : goal.returns
returns c =
    let given = c.in_ok-name.ensures in
    gives_token c.args.end _ c.new.result c.in_ok-name.name [] (chars c.args.text.now) (chars c.args.text.now) c.in_ok-name.rest.now refl
    (key_name c.in-Some.c (chars c.args.text.now) _ c.in-Some.ensures.chars (sym c.if-is_quote.ensures)) given
    (name_body (chars c.args.text.now) given.spelled (chars c.in_ok-name.rest.now) given.escape_free given.read)
    (left_counted c.args.text.now c.utf8.text) c.new.ensures
