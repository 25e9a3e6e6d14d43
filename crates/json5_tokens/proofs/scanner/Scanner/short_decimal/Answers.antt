use Rattle.std.proofs.Common.{◌++◌, sym, ◌∙◌}
use Rattle.std.specs.Str.{chars}
use Rattle.std.proofs.lemmas.List.{append_assoc}
use Rattle.json5_grammar.specs.Language.Numbers.{decimal, finite}
use Rattle.json5_types.proofs.NumberZeros.{held}
use Rattle.json5_tokens.proofs.ScanTokens.{left_counted, leaves_rest}
use Rattle.json5_tokens.proofs.ShortWays.{number_found, number_took}
use Rattle.json5_tokens.proofs.scanner.Scanner.short_decimal.Goals as goal

pub set_remaining-requires : goal.set_remaining-requires
set_remaining-requires g c =
    let found = c.in_ok-negative in
    let gives = found.ensures.read in
    let n = decimal (finite found.negative c.front_decimal.new.digits found.exponent) in
    let k = number_found _ c.args.self.now.unread _ (chars found.rest.now) n c.rest.ensures c.skip_ascii-text.ensures.passed gives.read in
    leaves_rest (k.gap ++ k.literal) found.rest.now (k.split ∙ sym (append_assoc k.gap k.literal (chars found.rest.now))) gives.text

pub returns : goal.returns
returns g c =
    let found = c.in_ok-negative in
    let gives = found.ensures.read in
    let r = found.rest.now in
    let n = decimal (finite found.negative c.front_decimal.new.digits found.exponent) in
    let k = number_found _ c.args.self.now.unread _ (chars r) n c.rest.ensures c.skip_ascii-text.ensures.passed gives.read in
    let l = c.set_remaining.ensures (k.gap ++ k.literal) (chars r) (k.split ∙ sym (append_assoc k.gap k.literal (chars r))) (left_counted r gives.text) in
    rw (c.into_decimal.ensures, held found.exponent found.ensures.normal.in_range) (number_took c.args.self.now c.set_remaining.new.self (chars r) n k l.1 l.0.same)
