use Rattle.std.proofs.Common.{ap, ◌∙◌}
use Rattle.cli_check.specs.Naming.{text_of}
use Rattle.cli_check.proofs.choosing.schema_key.Goals as goal

pub returns-in-Some : goal.returns-in-Some
returns-in-Some c = c.as_str.ensures ∙ ap text_of c.in-Some.ensures

pub returns-in-None : goal.returns-in-None
returns-in-None c = ap text_of c.in-None.ensures
