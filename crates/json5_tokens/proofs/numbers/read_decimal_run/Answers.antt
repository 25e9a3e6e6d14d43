use Rattle.std.specs.Str.{chars}
use Rattle.json5_tokens.proofs.NumberSteps.{failed_here}
use Rattle.json5_tokens.proofs.NumberCases.{run_refused}
use Rattle.json5_tokens.proofs.numbers.read_decimal_run.Goals as goal

pub returns-in_default : goal.returns-in_default
returns-in_default c = record {
  refused = failed_here _ _ c.args.start.now c.utf8.start (run_refused (chars c.args.start.now) c.args.negative (chars c.args.text.now) c.in_default.ensures);
  known = tt;
}
