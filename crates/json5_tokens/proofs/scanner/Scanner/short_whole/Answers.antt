use Rattle.std.proofs.Common.{◌++◌, sym, ◌∙◌}
use Rattle.std.specs.Str.{chars}
use Rattle.std.proofs.lemmas.List.{append_assoc}
use Rattle.json5_grammar.specs.Language.Numbers.{whole}
use Rattle.json5_tokens.proofs.ScanTokens.{left_counted, leaves_rest}
use Rattle.json5_tokens.proofs.ShortWays.{number_found, in_range}
use Rattle.json5_tokens.proofs.scanner.Scanner.short_whole.Goals as goal

pub set_remaining-requires : goal.set_remaining-requires
set_remaining-requires g c =
    let a = c.in_ok-number.ensures in
    let r = c.in_ok-number.rest.now in
    let k = number_found _ c.args.self.now.unread _ (chars r) (whole c.in_ok-number.number) c.rest.ensures c.skip_ascii.ensures.passed a.gives.read in
    leaves_rest (k.gap ++ k.literal) r (k.split ∙ sym (append_assoc k.gap k.literal (chars r))) a.gives.text

pub returns : goal.returns
returns g c =
    let a = c.in_ok-number.ensures in
    let r = c.in_ok-number.rest.now in
    let k = number_found _ c.args.self.now.unread _ (chars r) (whole c.in_ok-number.number) c.rest.ensures c.skip_ascii.ensures.passed a.gives.read in
    let l = c.set_remaining.ensures (k.gap ++ k.literal) (chars r) (k.split ∙ sym (append_assoc k.gap k.literal (chars r))) (left_counted r a.gives.text) in
    in_range c.args.self.now c.set_remaining.new.self c.args.min c.args.max c.in_ok-number.number (chars r) a.low a.high c.ranges.min c.ranges.max c.if-number-min.false c.if-max-number.false k l.1 l.0.same
