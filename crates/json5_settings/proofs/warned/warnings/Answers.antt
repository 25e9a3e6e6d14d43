use Rattle.std.proofs.Common.{inr}
use Rattle.json5_settings.proofs.warned.warnings.Goals as goal

pub returns-in-Err-clause-refused : goal.returns-in-Err-clause-refused
returns-in-Err-clause-refused c = inr c.in-Err.ensures.refused
