use Rattle.std.proofs.Common.{subst}
use Rattle.cli_tidy.specs.Refusals.{ShowsBytes, wrong}
use Rattle.cli_tidy.proofs.refusals.wrong_bytes.Goals as goal

pub returns-in-Ok-Some : goal.returns-in-Ok-Some
returns-in-Ok-Some c = wrong (subst (ShowsBytes c.args.name.now c.args.bytes.now) c.in-Ok-Some.field-0-is c.in-Ok-Some.ensures)
