use Rattle.std.proofs.Common.{◌≡◌, ◌≢◌, true, false, ap, rules}
use Rattle.std.specs.Str.{chars}
use Rattle.json5_grammar.specs.Language.Numbers.{begins_run}
use Rattle.json5_tokens.specs.Outcome.{outcome}
use Rattle.json5_tokens.proofs.NumberSteps.{failed_here}
use Rattle.json5_tokens.proofs.NumberCases.{unsigned_ends, unsigned_infinity, unsigned_nan, unsigned_zero, unsigned_run, unsigned_other}
use Rattle.json5_tokens.proofs.numbers.read_unsigned.Goals as goal

pub returns-in_default : goal.returns-in_default
returns-in_default c = record { refused = ap outcome (unsigned_ends (chars c.args.start.now) c.args.negative (chars c.args.text.now) c.in_default.ensures); known = tt }

pub returns-in-I : goal.returns-in-I
returns-in-I c = rw (unsigned_infinity (chars c.args.start.now) c.args.negative (chars c.args.text.now) _ c.in-Some.first c.in-Some.ensures.chars c.in-I.is) c.read_number_word.ensures

pub returns-in-N : goal.returns-in-N
returns-in-N c = rw (unsigned_nan (chars c.args.start.now) c.args.negative (chars c.args.text.now) _ c.in-Some.first c.in-Some.ensures.chars c.in-N.is) c.read_number_word-in-N.ensures

pub returns-in-0 : goal.returns-in-0
returns-in-0 c = rw (unsigned_zero (chars c.args.start.now) c.args.negative (chars c.args.text.now) _ c.in-Some.first c.in-Some.ensures.chars c.in-0.is) c.read_after_zero.ensures

pub returns-in-1-to-9 : goal.returns-in-1-to-9
returns-in-1-to-9 c =
    let begun : begins_run c.in-Some.first ≡ true = search rules in
    let other : c.in-Some.first ≢ 48 = search rules in
    rw (unsigned_run (chars c.args.start.now) c.args.negative (chars c.args.text.now) _ c.in-Some.first c.in-Some.ensures.chars other begun) c.read_decimal_run.ensures

pub returns-in_default-first : goal.returns-in_default-first
returns-in_default-first c =
    let none : begins_run c.in-Some.first ≡ false = search rules in
    let no_i : c.in-Some.first ≢ 73 = search rules in
    let no_n : c.in-Some.first ≢ 78 = search rules in
    let no_zero : c.in-Some.first ≢ 48 = search rules in
    record {
      refused = failed_here _ _ c.args.text.now c.utf8.text (unsigned_other (chars c.args.start.now) c.args.negative (chars c.args.text.now) _ c.in-Some.first c.in-Some.ensures.chars no_i no_n no_zero none);
      known = tt;
    }
