use Rattle.std.proofs.Common.{◌++◌, refl, sym, ◌∙◌}
use Rattle.std.specs.Str.{chars}
use Rattle.std.proofs.lemmas.List.{append_assoc}
use Rattle.json5_tokens.proofs.ScanTokens.{left_counted, leaves_rest}
use Rattle.json5_tokens.proofs.ShortWays.{number_found, number_took}
use Rattle.json5_tokens.proofs.scanner.Scanner.short_number.Goals as goal

pub set_remaining-requires : goal.set_remaining-requires
set_remaining-requires g c =
    let gives = c.in-Some.ensures in
    let r = c.in-Some.rest.now in
    let k = number_found _ c.args.self.now.unread _ (chars r) gives.value c.rest.ensures refl gives.read in
    leaves_rest (k.gap ++ k.literal) r (k.split ∙ sym (append_assoc k.gap k.literal (chars r))) gives.text

pub returns : goal.returns
returns g c =
    let gives = c.in-Some.ensures in
    let r = c.in-Some.rest.now in
    let k = number_found _ c.args.self.now.unread _ (chars r) gives.value c.rest.ensures refl gives.read in
    let l = c.set_remaining.ensures (k.gap ++ k.literal) (chars r) (k.split ∙ sym (append_assoc k.gap k.literal (chars r))) (left_counted r gives.text) in
    (gives.value, number_took c.args.self.now c.set_remaining.new.self (chars r) gives.value k l.1 l.0.same)
