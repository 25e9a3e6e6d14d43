use Rattle.std.proofs.Common.{ap}
use Rattle.cli_check.specs.CommandWords.{choices_of}
use Rattle.cli_check.proofs.options.Options.add_name.Goals as goal

pub returns : goal.returns
returns c = ap (λ names. record (choices_of c.args.self.now) { names = names }) c.in_ok-push_name.ensures
