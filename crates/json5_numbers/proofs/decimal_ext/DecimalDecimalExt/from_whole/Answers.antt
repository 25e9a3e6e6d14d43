use Rattle.std.proofs.Common.{◌≡◌, pos, ap, sym, ◌∙◌, subst}
use Rattle.std.specs.Fmt.{decimal}
use Rattle.json5_grammar.specs.Language.Characters.{is_digit, Each}
use Rattle.json5_grammar.specs.Language.Numbers.{normal_exponent, InExponents}
use Rattle.json5_types.specs.NumberWholes.{distance}
use Rattle.json5_numbers.proofs.ParsedNumbers.{whole_digits}
use Rattle.json5_numbers.proofs.decimal_ext.DecimalDecimalExt.from_whole.Goals as goal

pub unwrap-requires : goal.unwrap-requires
unwrap-requires c =
    let text : c.format-digits.result.now ≡ decimal (distance c.args.number) = c.format-digits.ensures.text ∙ ap decimal c.sign_and_size-negative.ensures.size in
    c.in_ok-found.ensures.some.1 (subst (λ s. Each is_digit s × InExponents (normal_exponent s (pos 0))) (sym text) (whole_digits (distance c.args.number) c.sign_and_size-negative.ensures.bound))
