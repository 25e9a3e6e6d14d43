use Rattle.std.proofs.Common.{refl}
use Rattle.json5_schema.proofs.formats.email.Goals as goal

pub returns : goal.returns
returns c = refl
