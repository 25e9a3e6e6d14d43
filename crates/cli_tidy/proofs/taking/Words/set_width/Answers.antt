use Rattle.std.proofs.Common.{refl}
use Rattle.cli_tidy.specs.CommandWords.{width}
use Rattle.cli_tidy.proofs.taking.Words.set_width.Goals as goal

pub returns-clause-set : goal.returns-clause-set
returns-clause-set c = (width c.in-Some.size, (c.in-Some.size, c.in-Some.ensures, refl), refl)
