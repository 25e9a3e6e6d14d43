use Rattle.std.proofs.Common.{◌≡◌, true, rules}
use Rattle.std.specs.Str.{chars}
use Rattle.json5_grammar.specs.Language.Characters.{is_digit}
use Rattle.json5_tokens.proofs.NumberSteps.{failed_here}
use Rattle.json5_tokens.proofs.NumberCases.{zero_leads}
use Rattle.json5_tokens.proofs.numbers.read_after_zero.Goals as goal

pub returns-in-0-to-9 : goal.returns-in-0-to-9
returns-in-0-to-9 c =
    let digit : is_digit c.in-Some.c ≡ true = search rules in
    record {
      refused = failed_here _ _ c.args.start.now c.utf8.start (zero_leads (chars c.args.start.now) c.args.negative (chars c.args.rest.now) _ c.in-Some.c c.in-Some.ensures.chars digit);
      known = tt;
    }
