use Rattle.std.proofs.Common.{◌≡◌, true, ◌||◌, ◌∙◌, sym, rules}
use Rattle.std.specs.Prelude.{◌==◌}
use Rattle.std.specs.Str.{chars}
use Rattle.json5_grammar.specs.Language.Characters.{NotBegun}
use Rattle.json5_tokens.proofs.DecimalRuns.{no_exponent, rest_all, no_mark, signed_tail}
use Rattle.json5_tokens.proofs.numbers.decimal_literals.read_exponent.Goals as goal

pub returns-then-not-run_goes_on : goal.returns-then-not-run_goes_on
returns-then-not-run_goes_on c =
    let none = sym c.run_goes_on.ensures ∙ c.if-not-run_goes_on.true in
    record { read = no_exponent (chars c.args.text.now) none; digits = tt; ends = record { follows = sym (rest_all (chars c.args.text.now) none); text = c.utf8.text } }

pub returns-in_default : goal.returns-in_default
returns-in_default c =
    let other : NotBegun (λ c. (c == 101) || (c == 69)) (chars c.args.text.now) = search rules in
    no_mark (chars c.args.text.now) (sym c.run_goes_on.ensures ∙ c.if-not-run_goes_on.false) other

pub returns : goal.returns
returns c =
    let found = c.in-Some-e-default in
    let mark : ((found.field-0-0 == 101) || (found.field-0-0 == 69)) ≡ true = search rules in
    signed_tail c.args.text.now (chars found.rest.now) c.split_sign-negative.result.1.now found.field-0-0 _ _ found.ensures.chars mark c.split_sign-negative.ensures.sign c.read_exponent_digits.ensures
