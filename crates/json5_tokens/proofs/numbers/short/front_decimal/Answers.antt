use Rattle.std.proofs.Common.{rules, ap, sym, ◌∙◌, []}
use Rattle.std.specs.Str.{chars}
use Rattle.json5_grammar.specs.Language.Numbers.{decimal, finite, in_run}
use Rattle.json5_grammar.specs.Model.Reading.{got}
use Rattle.json5_grammar.specs.Model.ReadNumbers.{if_literal, rest_of}
use Rattle.json5_types.proofs.NumberZeros.{held}
use Rattle.json5_tokens.proofs.NumberCases.{number_signed}
use Rattle.json5_tokens.proofs.numbers.short.front_decimal.Goals as goal

pub returns-clause-read : goal.returns-clause-read
returns-clause-read c =
    let x = chars c.args.text.now in
    let negative = c.split_sign-negative.result.0 in
    let y = chars c.split_sign-negative.result.1.now in
    let r = rest_of in_run y in
    let literal = c.in_ok-literal.ensures.literal in
    let digits = c.few_exponent.new.digits in
    let exponent = c.in_ok-exponent.exponent in
    record {
      read = number_signed x y negative c.split_sign-negative.ensures.sign ∙ c.begins_run.ensures c.if-not-begins_run.false x negative ∙ ap (if_literal x negative r) literal.read
          ∙ c.in_ok-exponent.ensures.means negative (search rules) x r ∙ ap (got (decimal (finite negative digits exponent))) (sym literal.ends.follows)
          ∙ ap (λ e. got (decimal (finite negative digits e)) (chars c.in_ok-literal.literal.rest.now)) (sym (held exponent c.in_ok-exponent.ensures.normal.in_range));
      text = literal.ends.text;
    }

pub few_exponent-requires-clause-gathered : goal.few_exponent-requires-clause-gathered
few_exponent-requires-clause-gathered c = c.in_ok-literal.ensures.gathered [] c.requires
