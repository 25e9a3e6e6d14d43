use Rattle.std.proofs.Common.{refl, ap}
use Rattle.cli_tidy.specs.CommandWords.{ending}
use Rattle.cli_tidy.specs.WordSteps.{choices_of}
use Rattle.cli_tidy.proofs.taking.Words.add_ending.Goals as goal

pub returns-in_default-clause-refused : goal.returns-in_default-clause-refused
returns-in_default-clause-refused c = λ u p k. c.in_default.ensures k.0 k.1

pub returns-clause-set : goal.returns-clause-set
returns-clause-set c =
    (ending c.in-Some.ending.now, (c.in-Some.ending.now, c.in-Some.ensures, refl), ap (λ e. record (choices_of c.args.self.now) { endings = e }) c.in_ok-push_name.ensures)
