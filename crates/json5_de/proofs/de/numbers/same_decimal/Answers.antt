use Rattle.std.proofs.Common.{◌≡◌, pos, nat_abs, ap, sym, ◌∙◌, subst}
use Rattle.std.specs.Fmt.{decimal}
use Rattle.json5_grammar.specs.Language.Characters.{is_digit, Each}
use Rattle.json5_grammar.specs.Language.Numbers.{normal_exponent, InExponents}
use Rattle.json5_de.proofs.WholeDecimals.{whole_digits}
use Rattle.json5_de.proofs.de.numbers.same_decimal.Goals as goal

pub unwrap-requires : goal.unwrap-requires
unwrap-requires c =
    let text : c.format-digits.result.now ≡ decimal (nat_abs c.args.whole) = c.format-digits.ensures.text ∙ ap decimal c.magnitude.ensures in
    c.in_ok-found.ensures.some.1 (subst (λ s. Each is_digit s × InExponents (normal_exponent s (pos 0))) (sym text) (whole_digits c.args.whole c.as_u128.ensures.whole))
