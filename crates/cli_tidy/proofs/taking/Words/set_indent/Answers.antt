use Rattle.std.proofs.Common.{refl}
use Rattle.cli_tidy.specs.CommandWords.{indent}
use Rattle.cli_tidy.proofs.taking.Words.set_indent.Goals as goal

pub returns-in_default-clause-refused : goal.returns-in_default-clause-refused
returns-in_default-clause-refused c = λ u p k. c.in_default.ensures k.0 k.1

pub returns-clause-set : goal.returns-clause-set
returns-clause-set c = (indent c.in-Some.size, (c.in-Some.size, c.in-Some.ensures, refl), refl)
