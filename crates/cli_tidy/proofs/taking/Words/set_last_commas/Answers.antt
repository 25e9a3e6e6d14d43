use Rattle.std.proofs.Common.{refl}
use Rattle.cli_tidy.specs.CommandWords.{last_commas}
use Rattle.cli_tidy.proofs.taking.Words.set_last_commas.Goals as goal

pub returns-clause-set : goal.returns-clause-set
returns-clause-set c = (last_commas c.in-Some.last_commas, (c.in-Some.last_commas, c.in-Some.ensures, refl), refl)
