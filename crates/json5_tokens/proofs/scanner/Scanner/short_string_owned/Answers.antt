use Rattle.std.proofs.Common.{sym, subst}
use Rattle.std.specs.Str.{chars}
use Rattle.json5_grammar.specs.Language.Trees.{text}
use Rattle.json5_grammar.specs.Language.Values.{Reads}
use Rattle.json5_tokens.proofs.ScanTokens.{left_counted, leaves_rest}
use Rattle.json5_tokens.proofs.ShortTexts.{string_found}
use Rattle.json5_tokens.proofs.scanner.Scanner.short_string_owned.Goals as goal

pub set_remaining-requires : goal.set_remaining-requires
set_remaining-requires g c =
    let given = c.in_ok-text.ensures in
    let rest = c.in_ok-text.rest.now in
    let k = string_found (chars c.rest.result.now) c.args.self.now.unread (chars c.skip_ascii.result.now) given.spelled (chars rest) given.escape_free c.rest.ensures c.skip_ascii.ensures.passed given.read in
    leaves_rest k.taken rest k.split given.text

pub returns : goal.returns
returns g c =
    let given = c.in_ok-text.ensures in
    let rest = c.in_ok-text.rest.now in
    let old = c.args.self.now.unread in
    let k = string_found (chars c.rest.result.now) old (chars c.skip_ascii.result.now) given.spelled (chars rest) given.escape_free c.rest.ensures c.skip_ascii.ensures.passed given.read in
    let l = c.set_remaining.ensures k.taken (chars rest) k.split (left_counted rest given.text) in
    record { spelled = given.spelled; escape_free = given.escape_free; read = subst (Reads old (text given.spelled given.escape_free)) (sym l.1) k.read; same = l.0.same; bytes = given.is_text }
