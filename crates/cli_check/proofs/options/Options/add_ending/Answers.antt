use Rattle.cli_check.proofs.options.Options.add_ending.Goals as goal

pub returns-in_default-clause-refused : goal.returns-in_default-clause-refused
returns-in_default-clause-refused c = λ u d k. c.in_default.ensures k.0 k.1
