use Rattle.std.proofs.Common.{rules, sym}
use Rattle.std.specs.Prelude.{◌==◌}
use Rattle.json5_grammar.specs.Language.Characters.{NotBegun}
use Rattle.std.specs.Str.{chars}
use Rattle.json5_tokens.proofs.DecimalRuns.{run_escape_free, run_pointed, rest_past_digits, ends_pointed, whole_literal}
use Rattle.json5_tokens.proofs.numbers.decimal_literals.read_decimal_literal.Goals as goal

pub returns-in_default : goal.returns-in_default
returns-in_default c =
    let other : NotBegun (λ c. c == 46) (chars c.split_digits.result.1.now) = search rules in
    whole_literal c.args.text.now c.split_digits.result.1.now _ _ _ (run_escape_free (chars c.args.text.now) _ _ c.split_digits.ensures.front c.split_digits.ensures.rest other)
    (rw c.split_digits.ensures.rest (rest_past_digits (chars c.args.text.now))) c.read_without_point.ensures

pub returns : goal.returns
returns c =
    whole_literal c.args.text.now c.split_digits-2.result.1.now _ _ _
    (run_pointed (chars c.args.text.now) _ _ _ _ _ c.in-Some-eq46-default.field-0-0 c.split_digits.ensures.front c.split_digits.ensures.rest c.in-Some-eq46-default.ensures.chars c.in-Some-eq46-default.field-0-0-test c.split_digits-2.ensures.front c.split_digits-2.ensures.rest)
    (sym (ends_pointed (chars c.args.text.now) _ _ _ c.in-Some-eq46-default.field-0-0 c.split_digits.ensures.rest c.in-Some-eq46-default.ensures.chars c.in-Some-eq46-default.field-0-0-test c.split_digits-2.ensures.rest))
    c.read_with_point.ensures
